-- Laws of one interval: which entry each of the code's tests leaves, and what an entry is bounded by.
-- Assumes nothing.
use Prim.Native.Nat.{ℕ, ◌≤◌, ◌<◌}
use mathlib.Core.Path.{◌≡◌, refl}
use mathlib.Core.Bool.{Bool, true, false}
use native.Mathlib.Omega.{arith}
use lib.Dec.{eqb, ltb}
use borrow.Author.Tests.{ltb-false}
use Rattle.rows.specs.Rows.{pick, both, either, hit}
use Rattle.rows.proofs.Laws.{both_true}
use Rattle.rows.proofs.Truth.{clash}
use Rattle.protocol.specs.Ranges.{missing, flow_most, ppm_most, temp_missing, press_missing, flow_right, ppm_right, temp_right, press_right}
use Rattle.protocol.proofs.RangeLaws.{either_false_both, kelvin_bounds, press_bound, value_bound}
use Rattle.columns.specs.Streams.{Gas, gas_right, gas_missing}
use Rattle.volume.specs.Volume.{Inside, air_most}
use Rattle.volume.proofs.Laws.{air_litres_most}
use Rattle.accounts.specs.Account.{counted}
use Rattle.ventilation_device.specs.Outcomes.{inlet_litres, exhaust_litres, outcome_of, entry_of}

-- readings that are right and not missing are those that the volume asks for
pub gas_inside : (g : Gas) → gas_right g ≡ true → gas_missing g ≡ false → Inside g.flow g.temp g.press × (g.ppm ≤ ppm_most)
gas_inside g r m =
    let r1 = both_true (flow_right g.flow) (both (ppm_right g.ppm) (both (temp_right g.temp) (press_right g.press))) r in
    let r2 = both_true (ppm_right g.ppm) (both (temp_right g.temp) (press_right g.press)) r1.1 in
    let r3 = both_true (temp_right g.temp) (press_right g.press) r2.1 in
    let m1 = either_false_both (missing g.flow) (either (missing g.ppm) (either (temp_missing g.temp) (press_missing g.press))) m in
    let m2 = either_false_both (missing g.ppm) (either (temp_missing g.temp) (press_missing g.press)) m1.1 in
    let m3 = either_false_both (temp_missing g.temp) (press_missing g.press) m2.1 in
    let kelvin = kelvin_bounds g.temp r3.0 m3.0 in (
      record {
        flow_within = value_bound g.flow flow_most r1.0 m1.0;
        kelvin_least = kelvin.0;
        kelvin_most = kelvin.1;
        press_most = press_bound g.press r3.1 m3.1;
      },
      value_bound g.ppm ppm_most r2.0 m2.0,
    )

-- ---- the outcome, by the tests in their order

abbrev ordered : Bool → Bool → Bool → Bool → ℕ
ordered s u l a = pick s 3 (pick u 4 (pick l 5 (pick a 6 0)))

few : (s u l a : Bool) → ordered s u l a < 10
few true u l a = omega arith
few false true l a = omega arith
few false false true a = omega arith
few false false false true = omega arith
few false false false false = omega arith

-- and it is neither 1 nor 2: nothing is replaced
not_replaced : (s u l a : Bool) → (hit (ordered s u l a) 1 ≡ 0) × (hit (ordered s u l a) 2 ≡ 0)
not_replaced true u l a = (refl, refl)
not_replaced false true l a = (refl, refl)
not_replaced false false true a = (refl, refl)
not_replaced false false false true = (refl, refl)
not_replaced false false false false = (refl, refl)

-- only outcome 0 is counted, and then nothing is missing and no more leaves than enters
counted_so : (s u l a : Bool) → counted (ordered s u l a) ≡ true → (l ≡ false) × (a ≡ false)
counted_so true u l a e = clash e refl
counted_so false true l a e = clash e refl
counted_so false false true a e = clash e refl
counted_so false false false true e = clash e refl
counted_so false false false false e = (refl, refl)

module _ (x y : Gas) (status : ℕ) where
  abbrev lacking : Bool
  lacking = either (gas_missing x) (gas_missing y)

  -- the interval's outcome
  abbrev pub outcome_for : ℕ
  outcome_for = outcome_of status lacking (inlet_litres x) (exhaust_litres y)

  -- ---- what each test leaves

  pub stopped : eqb status 0 ≡ true → outcome_for ≡ 3
  unfolding outcome_of
  stopped a = simp a

  pub unrecorded : eqb status 0 ≡ false → eqb status 3 ≡ true → outcome_for ≡ 4
  unfolding outcome_of
  unrecorded a b = simp (a, b)

  pub lacks_inlet : eqb status 0 ≡ false → eqb status 3 ≡ false → gas_missing x ≡ true → outcome_for ≡ 5
  unfolding outcome_of
  lacks_inlet a b c = simp (a, b, c)

  pub lacks_exhaust : eqb status 0 ≡ false → eqb status 3 ≡ false → gas_missing x ≡ false → gas_missing y ≡ true → outcome_for ≡ 5
  unfolding outcome_of
  lacks_exhaust a b c d = simp (a, b, c, d)

  pub more_out : eqb status 0 ≡ false → eqb status 3 ≡ false → gas_missing x ≡ false → gas_missing y ≡ false → ltb (inlet_litres x) (exhaust_litres y) ≡ true
      → outcome_for ≡ 6
  unfolding outcome_of
  more_out a b c d e = simp (a, b, c, d, e)

  pub measured : eqb status 0 ≡ false → eqb status 3 ≡ false → gas_missing x ≡ false → gas_missing y ≡ false → ltb (inlet_litres x) (exhaust_litres y) ≡ false
      → outcome_for ≡ 0
  unfolding outcome_of
  measured a b c d e = simp (a, b, c, d, e)

  -- ---- what an entry is bounded by

  inlet_most : gas_right x ≡ true → gas_missing x ≡ false → inlet_litres x ≤ air_most
  inlet_most r m = let i = gas_inside x r m in air_litres_most x.flow x.ppm x.temp x.press i.0 i.1

  pub outcome_few : (entry_of x y status).outcome < 10
  unfolding entry_of outcome_of
  outcome_few = few (eqb status 0) (eqb status 3) lacking (ltb (inlet_litres x) (exhaust_litres y))

  pub none_replaced : (hit (entry_of x y status).outcome 1 ≡ 0) × (hit (entry_of x y status).outcome 2 ≡ 0)
  unfolding entry_of outcome_of
  none_replaced = not_replaced (eqb status 0) (eqb status 3) lacking (ltb (inlet_litres x) (exhaust_litres y))

  -- a counted interval has both streams measured, and no more out than in
  pub counted_so_far : counted (entry_of x y status).outcome ≡ true → (gas_missing x ≡ false) × (gas_missing y ≡ false) × (exhaust_litres y ≤ inlet_litres x)
  unfolding entry_of outcome_of
  counted_so_far e =
      let z = counted_so (eqb status 0) (eqb status 3) lacking (ltb (inlet_litres x) (exhaust_litres y)) e in
      let m = either_false_both (gas_missing x) (gas_missing y) z.0 in
      (m.0, m.1, ltb-false (inlet_litres x) (exhaust_litres y) z.1)

  -- what leaves is no more than what enters, and that no more than any interval can have
  pub shared : gas_right x ≡ true → ((entry_of x y status).exhaust ≤ (entry_of x y status).inlet) × ((entry_of x y status).inlet ≤ air_most)
  unfolding entry_of
  shared r = go (counted outcome_for) (λ e. counted_so_far e)
    where
      go : (b : Bool) → (b ≡ true → (gas_missing x ≡ false) × (gas_missing y ≡ false) × (exhaust_litres y ≤ inlet_litres x))
          → (pick b (exhaust_litres y) 0 ≤ pick b (inlet_litres x) 0) × (pick b (inlet_litres x) 0 ≤ air_most)
      go true h = let z = h refl in (z.2, inlet_most r z.0)
      go false h = (omega arith, omega arith)
