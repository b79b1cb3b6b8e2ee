-- A verdict of a whole call: what it means, and what it is promised to be.
-- Assumes nothing.
use Rattle.refusals.specs.declared.Refusal.{Refusal}
use Rattle.std.proofs.Common.{◌≡◌, sym, subst, Result, Ok, Err}
use Rattle.steps.specs.Step.{AllClear, Refuses}
use Rattle.steps.proofs.Verdicts.{clean_clear, clear_clean, refused_first, first_refused, verdict_tells, Chain, chain_verdict}
use Rattle.ventilation_judge.specs.Call.{Call}
use Rattle.ventilation_judge.specs.Order.{steps_of, judged, Judged}

pub judged_clear : (c : Call) → judged c ≡ Ok tt → AllClear (steps_of c)
unfolding judged
judged_clear c = clean_clear (steps_of c)

pub judged_clean : (c : Call) → AllClear (steps_of c) → judged c ≡ Ok tt
unfolding judged
judged_clean c = clear_clean (steps_of c)

pub judged_refuses : (c : Call) (r : Refusal) → judged c ≡ Err r → Refuses (steps_of c) r
unfolding judged
judged_refuses c = refused_first (steps_of c)

pub judged_refused : (c : Call) (r : Refusal) → Refuses (steps_of c) r → judged c ≡ Err r
unfolding judged
judged_refused c = first_refused (steps_of c)

-- the equation is the whole promise
pub judged_so : (c : Call) (v : Result Unit Refusal) → v ≡ judged c → Judged c v
unfolding judged
judged_so c v e = record { verdict = e; told = verdict_tells (steps_of c) v e }

-- a chain of steps answers for the call
pub judged_by : (c : Call) (v : Result Unit Refusal) → Chain (steps_of c) v → Judged c v
unfolding judged
judged_by c v x = judged_so c v (chain_verdict (steps_of c) v x)

-- and so what a `?` returns does
pub judged_stopped : (c : Call) (r : Refusal) (v : Result Unit Refusal) → v ≡ Err r → Chain (steps_of c) (Err r) → Judged c v
judged_stopped c r v e x = subst (Judged c) (sym e) (judged_by c (Err r) x)
