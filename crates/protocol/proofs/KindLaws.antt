-- Laws of the device kinds and mines.
-- Assumes nothing.
use Rattle.std.proofs.Common.{ℕ, zero, suc, ◌≤◌, ◌≡◌, refl, sym, ap, ◌∙◌, not, false, eqb, Result, Ok, Err, is_err, arith}
use Rattle.rows.specs.Rows.{pick}
use Rattle.rows.proofs.Truth.{clash}
use Rattle.protocol.specs.declared.Kind.{Kind}
use Rattle.protocol.specs.declared.Kind.TheVariants.{OpenFlare, EnclosedFlare, Engine, Boiler, Turbine, Injection}
use Rattle.protocol.specs.declared.NoKind.{NoKind}
use Rattle.protocol.specs.declared.Mine.{Mine}
use Rattle.protocol.specs.declared.Mine.TheVariants.{Underground, Surface}
use Rattle.protocol.specs.declared.NoMine.{NoMine}
use Rattle.protocol.specs.Kinds.{thousandths_of, is_kind, is_mine, kind_number, mine_number, KindRead, MineRead}

-- a number is not read exactly where it names no kind, or no mine
pub kind_refused : (n : ℕ) (r : Result Kind NoKind) → KindRead n r → not (is_kind n) ≡ is_err r
kind_refused n (Ok k) e = ap (λ (m : ℕ). not (is_kind m)) (sym e) ∙ named k
  where
    named : (k : Kind) → not (is_kind (kind_number k)) ≡ false
    named OpenFlare = refl
    named EnclosedFlare = refl
    named Engine = refl
    named Boiler = refl
    named Turbine = refl
    named Injection = refl
kind_refused n (Err x) e = ap not e.1

pub mine_refused : (n : ℕ) (r : Result Mine NoMine) → MineRead n r → not (is_mine n) ≡ is_err r
mine_refused n (Ok m) e = ap (λ (i : ℕ). not (is_mine i)) (sym e) ∙ named m
  where
    named : (m : Mine) → not (is_mine (mine_number m)) ≡ false
    named Underground = refl
    named Surface = refl
mine_refused n (Err x) e = ap not e.1

-- there is one such answer: a number is the number of one kind, or of none, and of one mine
kind_of : ℕ → Kind
kind_of n = pick (eqb n 1) OpenFlare (pick (eqb n 2) EnclosedFlare (pick (eqb n 3) Engine (pick (eqb n 4) Boiler (pick (eqb n 5) Turbine Injection))))

kind_back : (k : Kind) → k ≡ kind_of (kind_number k)
unfolding kind_of
kind_back OpenFlare = refl
kind_back EnclosedFlare = refl
kind_back Engine = refl
kind_back Boiler = refl
kind_back Turbine = refl
kind_back Injection = refl

pub kind_unique : (n : ℕ) (a b : Result Kind NoKind) → KindRead n a → KindRead n b → a ≡ b
kind_unique n (Ok k) (Ok l) x y = ap Ok (kind_back k ∙ ap kind_of (x ∙ sym y) ∙ sym (kind_back l))
kind_unique n (Ok k) (Err e) x y = clash (kind_refused n (Err e) y) (kind_refused n (Ok k) x)
kind_unique n (Err e) (Ok l) x y = clash (kind_refused n (Err e) x) (kind_refused n (Ok l) y)
kind_unique n (Err e) (Err f) x y = ap (λ (m : ℕ). Err (record { 0 = m })) (x.0 ∙ sym y.0)

mine_back : (m : Mine) → m ≡ pick (eqb (mine_number m) 0) Underground Surface
mine_back Underground = refl
mine_back Surface = refl

pub mine_unique : (n : ℕ) (a b : Result Mine NoMine) → MineRead n a → MineRead n b → a ≡ b
mine_unique n (Ok m) (Ok l) x y =
    ap Ok (mine_back m ∙ ap (λ (i : ℕ). pick (eqb i 0) Underground Surface) (x ∙ sym y) ∙ sym (mine_back l))
mine_unique n (Ok m) (Err e) x y = clash (mine_refused n (Err e) y) (mine_refused n (Ok m) x)
mine_unique n (Err e) (Ok l) x y = clash (mine_refused n (Err e) x) (mine_refused n (Ok l) y)
mine_unique n (Err e) (Err f) x y = ap (λ (m : ℕ). Err (record { 0 = m })) (x.0 ∙ sym y.0)

-- what is no kind has no thousandths
pub no_kind : (k : ℕ) → (k ≡ 1 → ⊥) → (k ≡ 2 → ⊥) → (k ≡ 3 → ⊥) → (k ≡ 4 → ⊥) → (k ≡ 5 → ⊥) → (k ≡ 6 → ⊥) → thousandths_of k ≡ 0
no_kind zero a b c d e f = refl
no_kind (suc zero) a b c d e f = absurd (a refl)
no_kind (suc (suc zero)) a b c d e f = absurd (b refl)
no_kind (suc (suc (suc zero))) a b c d e f = absurd (c refl)
no_kind (suc (suc (suc (suc zero)))) a b c d e f = absurd (d refl)
no_kind (suc (suc (suc (suc (suc zero))))) a b c d e f = absurd (e refl)
no_kind (suc (suc (suc (suc (suc (suc zero)))))) a b c d e f = absurd (f refl)
no_kind (suc (suc (suc (suc (suc (suc (suc k))))))) a b c d e f = refl

-- no kind destroys more than 995 thousandths
pub thousandths_most : (k : ℕ) → thousandths_of k ≤ 995
thousandths_most zero = omega arith
thousandths_most (suc zero) = omega arith
thousandths_most (suc (suc zero)) = omega arith
thousandths_most (suc (suc (suc zero))) = omega arith
thousandths_most (suc (suc (suc (suc zero)))) = omega arith
thousandths_most (suc (suc (suc (suc (suc zero))))) = omega arith
thousandths_most (suc (suc (suc (suc (suc (suc zero)))))) = omega arith
thousandths_most (suc (suc (suc (suc (suc (suc (suc k))))))) = omega arith
