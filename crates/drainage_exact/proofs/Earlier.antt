-- What was reported of the same values used before litres came from hundredths of a litre (volume/proofs/Earlier.antt): no
-- device has fewer litres now, nor more than one for each counted interval, and the tonnes are never lower.
-- Assumes nothing.
use Prim.Native.Nat.{ℕ, ◌+◌, ◌≤◌, ◌<◌}
use mathlib.Core.Path.{◌≡◌, refl, subst}
use mathlib.Core.Bool.{Bool, true, false}
use native.Mathlib.Nat.{le_refl}
use lib.IntN.{ℤ}
use lib.Signed.{◌≤ℤ◌}
use Rattle.rows.specs.Rows.{sum_to, pick}
use Rattle.rows.proofs.Sums.{sum_to_le, sum_to_add}
use Rattle.volume.proofs.Earlier.{earlier_methane_litres, never_fewer, one_more_at_most}
use Rattle.balance.specs.Balance.{reduction_all, tonnes_of, fuel_in_mg}
use Rattle.balance.proofs.Monotone.{reduction_grows, tonnes_grow}
use Rattle.drainage_exact.specs.Exact.{Used, Possible, reported_q, reported_tonnes}
use Rattle.drainage_exact.proofs.Demand3.{counted_of}

unfoldable pub earlier_q : Used → ℕ → ℕ
earlier_q u d =
    sum_to u.intervals (λ k.
    pick (u.counted d k) (earlier_methane_litres (u.flow d k) (u.content d k) (u.temp d k) (u.press d k)) 0)

unfoldable pub earlier_tonnes : Used → ℤ
earlier_tonnes u =
    tonnes_of (reduction_all u.devices u.kind (earlier_q u) (fuel_in_mg u.fuels u.quantity u.factor))

-- of an interval that is not counted there is nothing to say
picked_le : (b : Bool) (x y : ℕ) → (b ≡ true → x ≤ y) → pick b x 0 ≤ pick b y 0
picked_le true x y h = h refl
picked_le false x y h = le_refl 0

picked_more : (b : Bool) (x y : ℕ) → (b ≡ true → y ≤ x + 1) → pick b y 0 ≤ pick b x 0 + pick b 1 0
picked_more true x y h = h refl
picked_more false x y h = le_refl 0

module _ (u : Used) (s : Possible u) where
  pub q_never_fewer : (d : ℕ) → d < u.devices → earlier_q u d ≤ reported_q u d
  unfolding earlier_q reported_q
  q_never_fewer d h =
      sum_to_le u.intervals _ _ (λ k l.
      picked_le (u.counted d k) _ _ (λ c. never_fewer (u.flow d k) (u.temp d k) (u.press d k) (s.warm d k h l c) (u.content d k)))

  pub q_one_more_each : (d : ℕ) → d < u.devices → reported_q u d ≤ earlier_q u d + counted_of u d
  unfolding earlier_q reported_q counted_of
  q_one_more_each d h =
      subst (λ (n : ℕ). reported_q u d ≤ n) (sum_to_add u.intervals _ (λ k. pick (u.counted d k) 1 0))
      (sum_to_le u.intervals _ _ (λ k l.
      picked_more (u.counted d k) _ _ (λ c.
      one_more_at_most (u.flow d k) (u.temp d k) (u.press d k) (s.warm d k h l c) (u.content d k) (s.content_within d k h l c))))

  pub tonnes_never_lower : earlier_tonnes u ≤ℤ reported_tonnes u
  unfolding earlier_tonnes reported_tonnes
  tonnes_never_lower =
      tonnes_grow _ _
      (reduction_grows u.devices u.kind (earlier_q u) (reported_q u) (fuel_in_mg u.fuels u.quantity u.factor) q_never_fewer)
