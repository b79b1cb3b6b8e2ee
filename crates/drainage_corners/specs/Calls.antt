-- Small calls of one device, to compute the definitions on.
-- Assumes nothing.
use Rattle.std.specs.Prelude.{ℕ, ◌-◌, List, [], ◌∷◌, ◌++◌, ℤ, pos, length, replicate}
use Rattle.protocol.specs.Ranges.{mark}
use Rattle.columns.specs.Series.{series_of, checks_of, fuel_of}
use Rattle.drainage_judge.specs.Call.{Call}

-- what differs from call to call; temperature is 20.00 °C and pressure 101,325 Pa, the reference conditions
pub record Given : Type 0 where
  pub mine : ℕ
  pub kind : ℕ
  pub counts : List ℕ
  pub positions : List ℕ
  pub drifts : List ℤ
  pub flow : List ℕ
  pub content : List ℕ
  pub status : List ℕ
  pub quantity : List ℕ
  pub factor : List ℕ

abbrev pub call_of : Given → Call
call_of g =
    record {
      intervals = length g.flow;
      devices = 1;
      mine = g.mine;
      kinds = g.kind ∷ [];
      checks = checks_of g.counts (g.positions ++ replicate (64 - length g.positions) 0) (g.drifts ++ replicate (64 - length g.drifts) (pos 0));
      series = series_of g.flow g.content (replicate (length g.flow) (pos 2000)) (replicate (length g.flow) 101325) g.status;
      fuel = fuel_of g.quantity g.factor;
      outcome_length = length g.flow;
      flow_row_length = length g.flow;
      content_row_length = length g.flow;
    }

-- one interval of 3,000 m3 of pure methane, no checks
abbrev one : ℕ → ℕ → ℕ → List ℕ → List ℕ → Call
one mine kind status quantity factor =
    call_of
    (record {
      mine = mine;
      kind = kind;
      counts = 0 ∷ 0 ∷ [];
      positions = [];
      drifts = [];
      flow = 30000 ∷ [];
      content = 10000 ∷ [];
      status = status ∷ [];
      quantity = quantity;
      factor = factor;
    })

-- rule 14.1: the worked example, an enclosed flare and 700 kg of CO2 from fuel
abbrev pub worked : Call
worked = one 0 2 1 (1000 ∷ []) (700000 ∷ [])

-- pipeline injection at a surface mine, no fuel line
abbrev pub injected : Call
injected = one 1 6 1 [] []

-- a stopped flare, and so much fuel
abbrev pub stopped : List ℕ → List ℕ → Call
stopped = one 0 2 0

-- one interval with a flow reading of 1,000; counts, positions and drifts as given
abbrev pub counted : List ℕ → List ℕ → List ℤ → Call
counted counts positions drifts =
    call_of
    (record {
      mine = 0;
      kind = 2;
      counts = counts;
      positions = positions;
      drifts = drifts;
      flow = 1000 ∷ [];
      content = 10000 ∷ [];
      status = 1 ∷ [];
      quantity = [];
      factor = [];
    })

-- the same with two checks of the flow instrument
abbrev pub checked : ℕ → ℕ → ℤ → ℤ → Call
checked first second d e = counted (2 ∷ 0 ∷ []) (first ∷ second ∷ []) (d ∷ e ∷ [])

-- 33 attested intervals without the flow of the one after `before` others: 100 before it, 101 after it
abbrev pub gapped : ℕ → Call
gapped before =
    call_of
    (record {
      mine = 0;
      kind = 2;
      counts = 0 ∷ 0 ∷ [];
      positions = [];
      drifts = [];
      flow = replicate before 100 ++ (mark ∷ replicate (32 - before) 101);
      content = replicate 33 10000;
      status = replicate 33 2;
      quantity = [];
      factor = [];
    })
