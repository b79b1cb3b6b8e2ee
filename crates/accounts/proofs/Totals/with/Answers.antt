-- One account more in the sums, each within 64 bits.
use native.Mathlib.Omega.{arith}
use Rattle.balance.proofs.Laws.{carbon_le}
use Rattle.accounts.proofs.Adding.{added_is, sums_fit}
use Rattle.accounts.proofs.Totals.with.Goals as goal

pub overflow_add-replaced : goal.overflow_add-replaced
overflow_add-replaced c = (sums_fit c.args.self c.args.a c.requires.0 c.requires.1).replaced_two

pub overflow_add-excluded : goal.overflow_add-excluded
overflow_add-excluded c = (sums_fit c.args.self c.args.a c.requires.0 c.requires.1).excluded_to_4

pub overflow_add-excluded-2 : goal.overflow_add-excluded-2
overflow_add-excluded-2 c = (sums_fit c.args.self c.args.a c.requires.0 c.requires.1).excluded_to_5

pub overflow_add-excluded-3 : goal.overflow_add-excluded-3
overflow_add-excluded-3 c = (sums_fit c.args.self c.args.a c.requires.0 c.requires.1).excluded_to_6

pub overflow_add-excluded-4 : goal.overflow_add-excluded-4
overflow_add-excluded-4 c = (sums_fit c.args.self c.args.a c.requires.0 c.requires.1).excluded_to_7

pub overflow_add-excluded-5 : goal.overflow_add-excluded-5
overflow_add-excluded-5 c = (sums_fit c.args.self c.args.a c.requires.0 c.requires.1).excluded_to_8

pub overflow_add-excluded-6 : goal.overflow_add-excluded-6
overflow_add-excluded-6 c = (sums_fit c.args.self c.args.a c.requires.0 c.requires.1).excluded_to_9

pub overflow_add-result-4 : goal.overflow_add-result-4
overflow_add-result-4 c = (sums_fit c.args.self c.args.a c.requires.0 c.requires.1).replaced

pub overflow_add-result-5 : goal.overflow_add-result-5
overflow_add-result-5 c = (sums_fit c.args.self c.args.a c.requires.0 c.requires.1).excluded

pub overflow_add-result-6 : goal.overflow_add-result-6
overflow_add-result-6 c = (sums_fit c.args.self c.args.a c.requires.0 c.requires.1).methane

pub overflow_add-result-7 : goal.overflow_add-result-7
overflow_add-result-7 c = (sums_fit c.args.self c.args.a c.requires.0 c.requires.1).destroyed

pub overflow_add-result-8 : goal.overflow_add-result-8
overflow_add-result-8 c = (sums_fit c.args.self c.args.a c.requires.0 c.requires.1).uncombusted

pub overflow_add-result-10 : goal.overflow_add-result-10
overflow_add-result-10 c =
    omega (
      arith,
      c.carbon_dioxide_mg.ensures,
      carbon_le c.args.a.destroyed,
      c.requires.1.destroyed_most,
      c.requires.0.co2_room,
    )

pub returns : goal.returns
returns c =
    added_is c.args.self c.args.a c.methane_mg.result
    c.carbon_dioxide_mg.result c.methane_mg-2.result c.methane_mg.ensures
    c.carbon_dioxide_mg.ensures c.methane_mg-2.ensures
