-- Demand 3: the reported tonnes are never above the exact reduction, and short of it by less than a tonne and the
-- promised grams. First over an interval's loss, the factor of unburnt methane and the grams, then with those of rule 10.4.
-- Assumes nothing.
use Prim.Native.Nat.{ℕ, ◌+◌, ◌*◌, ◌≤◌, ◌<◌}
use mathlib.Core.Path.{◌≡◌, refl, ap, ap₂, ◌∙◌, subst₂}
use native.Mathlib.Nat.{mul-pos, mul_comm}
use native.Mathlib.Omega.{arith}
use lib.IntN.{ℤ, pos}
use Rattle.rows.specs.Rows.{sum_to, pick}
use Rattle.rows.proofs.Sums.{sum_to_add, sum_to_mul, sum_to_const}
use Rattle.protocol.specs.Numbers.{methane_mg}
use Rattle.protocol.specs.Ranges.{kelvin_of, content_most}
use Rattle.volume.specs.Volume.{correction_over, correction_under, correction_down, parts_factor, hundredths_of, methane_under, methane_litres_in, methane_litres}
use Rattle.balance.specs.Balance.{destroyed_of, uncombusted_of, baseline_in_mg, carbon_dioxide_mg, uncombusted_in_mg, fuel_in_mg, baseline_all, carbon_dioxide_all}
use Rattle.balance.specs.Balance.{uncombusted_all, equation1, reduction_all, tonnes_of}
use Rattle.balance.proofs.Laws.{reduction_ext}
use Rattle.fractions.specs.Fraction.{Fraction, as_fraction, ◌-ᶠ◌, sumᶠ}
use Rattle.drainage_exact.specs.Exact.{Used, Possible, exact_hundredths, exact_methane, exact_q, exact_device_mg, exact_reduction, reported_q, reported_tonnes}
use Rattle.drainage_exact.specs.Exact.{interval_mg, device_mg, promised}
use Rattle.fractions.specs.Fair.{Fair}
use Rattle.fractions.proofs.Near.{fair_devices}
use Rattle.fractions.proofs.Close.{RoundedDown, close_row, down_interval}
use Rattle.drainage_exact.proofs.Device.{Covers, device_near}

-- ---- over loss, factor and grams

grams : (devices interval device : ℕ) (i : ℕ → ℕ)
    → sum_to devices (λ d. interval * i d + device) ≡ interval * sum_to devices i + device * devices
grams devices interval device i =
    sum_to_add devices (λ d. interval * i d) (λ d. device)
    ∙ ap₂ ◌+◌ (sum_to_mul devices interval i) (sum_to_const devices device ∙ mul_comm devices device)

pub fair : {u w interval device : ℕ} → Covers u w interval device
    → (devices : ℕ) (kind : ℕ → ℕ) (x : ℕ → Fraction) (q i : ℕ → ℕ) (fuel : ℕ) → ((d : ℕ) → d < devices → RoundedDown u (x d) (q d) (i d))
    → Fair
    (sumᶠ devices (λ d. exact_device_mg w (kind d) (x d)) -ᶠ as_fraction (pos fuel))
    (tonnes_of (equation1
    (sum_to devices (λ d. w * q d))
    (sum_to devices (λ d. carbon_dioxide_mg (destroyed_of (kind d) (q d))))
    (sum_to devices (λ d. w * uncombusted_of (kind d) (q d)))
    fuel))
    (interval * sum_to devices i + device * devices)
fair {u} {w} {interval} {device} v devices kind x q i fuel close =
    fair_devices devices (λ d. exact_device_mg w (kind d) (x d)) (λ d. w * q d) (λ d. carbon_dioxide_mg (destroyed_of (kind d) (q d)))
    (λ d. w * uncombusted_of (kind d) (q d)) (λ d. interval * i d + device) fuel (grams devices interval device i)
    (λ d h. device_near v (kind d) (close d h))

-- ---- the protocol's numbers

-- the counted intervals of device d, and of all devices
unfoldable pub counted_of : Used → ℕ → ℕ
counted_of u d = sum_to u.intervals (λ k. pick (u.counted d k) 1 0)

unfoldable pub counted_all : Used → ℕ
counted_all u = sum_to u.devices (counted_of u)

-- at most 1.01 litres an interval, 14,007 mg a litre, 13 grams an interval and 13 a device
covers : Covers 100 methane_mg interval_mg device_mg
covers =
    record { unit = omega arith; saves = 48691; is_saves = refl; per_interval = omega arith; per_device = omega arith }

interval_close : (flow content : ℕ) (temp : ℤ) (press : ℕ) → 0 < kelvin_of temp → content ≤ content_most
    → RoundedDown 100 (exact_methane flow content temp press) (methane_litres flow content temp press) 1
unfolding exact_methane exact_hundredths methane_litres methane_litres_in hundredths_of correction_down
interval_close flow content temp press h l =
    down_interval 100 methane_under (correction_over parts_factor flow press) (correction_under temp) content
    (omega arith) (mul-pos h (let z : 0 < 101325 = omega arith in z)) (omega (arith, l))

q_close : (u : Used) → Possible u → (d : ℕ) → d < u.devices → RoundedDown 100 (exact_q u d) (reported_q u d) (counted_of u d)
unfolding exact_q reported_q counted_of
q_close u s d h =
    close_row u.intervals (u.counted d)
    (λ k. exact_methane (u.flow d k) (u.content d k) (u.temp d k) (u.press d k))
    (λ k. methane_litres (u.flow d k) (u.content d k) (u.temp d k) (u.press d k))
    (λ k l c. interval_close (u.flow d k) (u.content d k) (u.temp d k) (u.press d k) (s.warm d k h l c) (s.content_within d k h l c))

-- rules 10.3 and 10.4
pub demand_3 : (u : Used) → Possible u → Fair (exact_reduction u) (reported_tonnes u) (promised (counted_all u) u.devices)
unfolding exact_reduction reported_tonnes promised counted_all reduction_all baseline_all carbon_dioxide_all uncombusted_all baseline_in_mg uncombusted_in_mg
demand_3 u s =
    fair covers u.devices u.kind (exact_q u) (reported_q u) (counted_of u) (fuel_in_mg u.fuels u.quantity u.factor) (q_close u s)

-- for a caller whose litres equal the reported ones device by device: the tonnes are those that are reported
pub reported_of : (u : Used) (kind q : ℕ → ℕ) → ((d : ℕ) → d < u.devices → u.kind d ≡ kind d) → ((d : ℕ) → d < u.devices → reported_q u d ≡ q d)
    → reported_tonnes u ≡ tonnes_of (reduction_all u.devices kind q (fuel_in_mg u.fuels u.quantity u.factor))
unfolding reported_tonnes
reported_of u kind q h l =
    ap tonnes_of (reduction_ext u.devices u.kind kind (reported_q u) q (fuel_in_mg u.fuels u.quantity u.factor) h l)

-- and demand 3 holds, where the same device-intervals are counted
pub demand_3_of : (u : Used) → Possible u → (kind q : ℕ → ℕ) (counted : ℕ) → ((d : ℕ) → d < u.devices → u.kind d ≡ kind d)
    → ((d : ℕ) → d < u.devices → reported_q u d ≡ q d) → counted_all u ≡ counted
    → Fair (exact_reduction u) (tonnes_of (reduction_all u.devices kind q (fuel_in_mg u.fuels u.quantity u.factor))) (promised counted u.devices)
demand_3_of u s kind q counted h l e =
    subst₂ (λ (t : ℤ) (n : ℕ). Fair (exact_reduction u) t (promised n u.devices)) (reported_of u kind q h l) e (demand_3 u s)
