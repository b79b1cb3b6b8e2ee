-- A part of a row that is written over at once, as a copy or a fill does it.
-- Assumes nothing.
use Prim.Native.Nat.{ℕ, zero, suc, ◌+◌, ◌-◌, ◌≤◌, ◌<◌}
use mathlib.Core.Path.{◌≡◌, sym, ap, ap₂, ◌∙◌, subst}
use mathlib.Core.List.{List, ◌∷◌, [], ◌++◌, append_assoc, append-nil}
use native.Mathlib.Nat.{add-zero, add-suc}
use native.Mathlib.Omega.{arith}
use lib.ListN.{length, take, drop, replicate, length-replicate, get_or-replicate}
use lib.Seq.{take_at, drop_at, drop-drop, ext_get_or}
use Rattle.rows.specs.Rows.{build, cut, put, Continued}
use Rattle.rows.proofs.Laws.{length-build, length-put, length-cut, build_ext, get_or-build}

module _ {A : Type 0} where
  build_add : (a m : ℕ) (f : ℕ → A) → build (a + m) f ≡ build a f ++ build m (λ k. f (a + k))
  build_add a zero f = ap (λ (n : ℕ). build n f) (add-zero a) ∙ sym (append-nil (build a f))
  build_add a (suc m) f =
      ap (λ (n : ℕ). build n f) (add-suc a m)
      ∙ ap (λ (xs : List A). xs ++ (f (a + m) ∷ [])) (build_add a m f)
      ∙ append_assoc (build a f) (build m (λ k. f (a + k))) (f (a + m) ∷ [])

  pub continued_put : (a e : ℕ) (g : ℕ → A) (old ys : List A) → a ≤ e → e ≤ length old → ys ≡ build (e - a) (λ k. g (a + k))
      → Continued a e g old (put old a e ys)
  continued_put a e g old ys l m q =
      record {
        continued = λ f base b h z.
            ap (λ (xs : List A). take a xs ++ (ys ++ drop (e - a) (drop a xs))) z
            ∙ ap₂ (λ (xs zs : List A). xs ++ (ys ++ drop (e - a) zs))
            (take_at (build a f) (drop a base) a (length-build a f))
            (drop_at (build a f) (drop a base) a (length-build a f))
            ∙ sym (append_assoc (build a f) ys (drop (e - a) (drop a base)))
            ∙ ap₂ ◌++◌ (ap (λ (zs : List A). build a f ++ zs) (q ∙ build_ext (e - a) _ _ (λ k n. sym (h (a + k) (omega arith) (omega arith))))
            ∙ sym (build_add a (e - a) f) ∙ ap (λ (n : ℕ). build n f) whole)
            (drop-drop (e - a) a base ∙ ap (λ (n : ℕ). drop n base) whole);
        same_length = length-put old a e ys l m (ap length q ∙ length-build (e - a) (λ k. g (a + k)));
      }
    where
      whole : a + (e - a) ≡ e
      whole = omega arith

-- one value throughout
pub continued_fill : (a e v w : ℕ) (old ys : List ℕ) → a ≤ e → e ≤ length old → v ≡ w → ys ≡ replicate (length (cut old a e)) v
    → Continued a e (λ k. w) old (put old a e ys)
continued_fill a e v w old ys l m h q =
    continued_put a e (λ k. w) old ys l m (q ∙ ap₂ (λ (n x : ℕ). replicate n x) (length-cut old a e l m) h ∙ same (e - a))
  where
    same : (n : ℕ) → replicate n w ≡ build n (λ k. w)
    same n =
        ext_get_or w (replicate n w) (build n (λ k. w)) (length-replicate n w ∙ sym (length-build n (λ k. w)))
        (λ i z.
        let b : i < n = subst (λ (x : ℕ). i < x) (length-replicate n w) z in
        get_or-replicate n i w w b ∙ sym (get_or-build n (λ k. w) i w b))
