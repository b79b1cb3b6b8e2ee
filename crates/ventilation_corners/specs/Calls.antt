-- Small calls of one oxidiser, to compute the definitions on.
-- Assumes nothing.
use Rattle.std.specs.Prelude.{ℕ, List, [], ◌∷◌, pos, negsuc, length}
use Rattle.columns.specs.Series.{fuel_of}
use Rattle.columns.specs.Streams.{Gas, gas_of, Stream, air_of}
use Rattle.ventilation_judge.specs.Call.{Call}

-- an interval: what enters, what leaves, the status
pub record Interval : Type 0 where
  pub inlet : Gas
  pub exhaust : Gas
  pub status : ℕ

abbrev pub each : {A B : Type 0} → (A → B) → List A → List B
each f [] = []
each f (x ∷ xs) = f x ∷ each f xs

abbrev stream_in : (Interval → Gas) → List Interval → Stream
stream_in side xs =
    record { flow = each (λ x. (side x).flow) xs; ppm = each (λ x. (side x).ppm) xs; temp = each (λ x. (side x).temp) xs; press = each (λ x. (side x).press) xs }

-- one device with these intervals, and fuel lines
abbrev pub call_of : List Interval → List ℕ → List ℕ → Call
call_of xs quantity factor =
    record {
      intervals = length xs;
      devices = 1;
      air = air_of (stream_in (λ x. x.inlet) xs) (stream_in (λ x. x.exhaust) xs) (each (λ x. x.status) xs);
      fuel = fuel_of quantity factor;
      outcome_length = length xs;
    }

-- air at the reference conditions, and at the coldest and densest
abbrev pub standard : ℕ → ℕ → Gas
standard flow ppm = gas_of flow ppm (pos 2000) 101325

abbrev pub densest : Gas
densest = gas_of 30000 20000 (negsuc 3999) 300000

abbrev pub interval : Gas → Gas → ℕ → Interval
interval inlet exhaust status = record { inlet = inlet; exhaust = exhaust; status = status }

-- rule 19.13: 300,000 m3 with 10,000 ppm in and 100 ppm out, and 700 kg of CO2 from fuel
abbrev pub worked : Call
worked = call_of (interval (standard 30000 10000) (standard 30000 100) 1 ∷ []) (1000 ∷ []) (700000 ∷ [])
