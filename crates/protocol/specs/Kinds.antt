-- Device kinds and the thousandths of the methane that each destroys; mines; and how a record's numbers name both.
-- Assumes nothing.
use Rattle.std.specs.Prelude.{ℕ, ◌≡◌, refl, Bool, false, [], ◌∷◌, leb, eqb, get_or, Result, MatchResult}
use Rattle.rows.specs.Rows.{both}
use Rattle.protocol.specs.declared.Kind.{Kind}
use Rattle.protocol.specs.declared.Kind.TheVariants.{OpenFlare, EnclosedFlare, Engine, Boiler, Turbine, Injection}
use Rattle.protocol.specs.declared.NoKind.{NoKind}
use Rattle.protocol.specs.declared.Mine.{Mine}
use Rattle.protocol.specs.declared.Mine.TheVariants.{Underground, Surface}
use Rattle.protocol.specs.declared.NoMine.{NoMine}

-- rule 3.6: k of each kind, the thousandths of the methane that it destroys; what is no kind destroys nothing
abbrev pub thousandths_of : ℕ → ℕ
thousandths_of kind = get_or (0 ∷ 960 ∷ 995 ∷ 936 ∷ 980 ∷ 995 ∷ 960 ∷ []) kind 0

-- rule 4.5: the kinds are 1..6
abbrev pub is_kind : ℕ → Bool
is_kind kind = both (leb 1 kind) (leb kind 6)

-- rule 3.5: the mines are 0, underground, and 1, surface; rule 4.4 refuses any other
abbrev pub is_mine : ℕ → Bool
is_mine mine = leb mine 1

-- rule 4.6: kind 6 at an underground mine
abbrev pub misplaced : ℕ → ℕ → Bool
misplaced mine kind = both (eqb kind 6) (eqb mine 0)

-- rule 3.6: the number that names a kind in a record
abbrev pub kind_number : Kind → ℕ
kind_number OpenFlare = 1
kind_number EnclosedFlare = 2
kind_number Engine = 3
kind_number Boiler = 4
kind_number Turbine = 5
kind_number Injection = 6

-- rule 3.5: and a mine
abbrev pub mine_number : Mine → ℕ
mine_number Underground = 0
mine_number Surface = 1

-- a number is read as the kind, or the mine, that it names, or it names none
abbrev pub KindRead : ℕ → Result Kind NoKind → Type 0
KindRead number r = MatchResult r (λ kind. kind_number kind ≡ number) (λ e. (e.0 ≡ number) × (is_kind number ≡ false))

abbrev pub MineRead : ℕ → Result Mine NoMine → Type 0
MineRead number r = MatchResult r (λ mine. mine_number mine ≡ number) (λ e. (e.0 ≡ number) × (is_mine number ≡ false))

flare : thousandths_of 2 ≡ 995
flare = refl

injection : thousandths_of 6 ≡ 960
injection = refl

unknown : thousandths_of 258 ≡ 0
unknown = refl
