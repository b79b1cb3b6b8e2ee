-- The search for the limit as a loop's invariant: low meets the condition or is 0, high does not meet it.
-- Assumes nothing.
use Prim.Native.Nat.{ℕ, ◌+◌, ◌-◌, ◌*◌, ◌/◌, ◌≤◌, ◌<◌}
use mathlib.Core.Path.{◌≡◌}
use mathlib.Core.Bool.{true, false}
use native.Mathlib.Nat.{le_trans, not-suc-le-zero, mul-div-le, lt-mul-div-succ}
use native.Mathlib.Omega.{arith}
use Rattle.drainage_window.specs.declared.Tally.{Tally}
use Rattle.drainage_window.specs.Window.{mean_of, Meets, meets, limit_of, z95}
use Rattle.drainage_window.specs.Sizes.{Sized}
use Rattle.drainage_window.proofs.Laws.{meets_true, meets_false, meets_below, above_mean, mean_most, limit_of_lem}

pub record Between (t : Tally) (z low high : ℕ) : Type 0 where
  pub sized : Sized t
  pub z_most : z ≤ z95
  pub order : low < high
  pub most : high ≤ 30001
  pub met : 0 < low → Meets t z low
  pub missed : Meets t z high → ⊥

pub between_start : {t : Tally} {z m : ℕ} → Sized t → z ≤ z95 → m ≡ mean_of t → Between t z 0 (m + 1)
between_start {t} {z} {m} s h e =
    record {
      sized = s;
      z_most = h;
      order = omega arith;
      most = (let b : mean_of t ≤ 30000 = mean_most t 30000 s.sum_most in omega arith);
      met = λ l. absurd (not-suc-le-zero l);
      missed = above_mean t z (m + 1) s.some (omega arith);
    }

-- the middle lies between the two
halved : (low high : ℕ) → low + 1 < high → (low < low + (high - low) / 2) × (low + (high - low) / 2 < high)
halved low high h =
    let a : 2 * ((high - low) / 2) ≤ high - low = mul-div-le (high - low) 2 in
    let b : high - low < 2 * ((high - low) / 2 + 1) = lt-mul-div-succ (high - low) (let z : 0 < 2 = omega arith in z) in
    (omega arith, omega arith)

module _ {t : Tally} {z low high : ℕ} (b : Between t z low high) (h : low + 1 < high) where
  pub middle_most : low + (high - low) / 2 ≤ 30000
  middle_most = let w = halved low high h in omega (arith, w.1, b.most)

  pub between_up : meets t z (low + (high - low) / 2) ≡ true → Between t z (low + (high - low) / 2) high
  between_up e =
      record {
        sized = b.sized;
        z_most = b.z_most;
        order = (halved low high h).1;
        most = b.most;
        met = λ l. meets_true t z (low + (high - low) / 2) b.sized.some e;
        missed = b.missed;
      }

  pub between_down : meets t z (low + (high - low) / 2) ≡ false → Between t z low (low + (high - low) / 2)
  between_down e =
      record {
        sized = b.sized;
        z_most = b.z_most;
        order = (halved low high h).0;
        most = le_trans middle_most (let z : 30000 ≤ 30001 = omega arith in z);
        met = b.met;
        missed = meets_false t z (low + (high - low) / 2) b.sized.some e;
      }

pub between_end : {t : Tally} {z low high : ℕ} → Between t z low high → high ≤ low + 1 → low ≡ limit_of t z
between_end {t} {z} {low} {high} b h =
    limit_of_lem t z low b.sized.some
    (record { reached = b.met; greatest = λ M l m. b.missed (meets_below t z high M b.sized.some (omega arith) m) })
