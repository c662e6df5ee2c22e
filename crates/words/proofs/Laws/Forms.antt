-- A line's words beside a form's words, one more at a time.
use Rattle.std.proofs.Common.{◌≡◌, refl, ◌∙◌, Bool, true, false, Some, sym, ne_eqb, Result, Ok, Err, List, [], ◌∷◌, ℕ}
use Rattle.std.specs.Bool.{then_some}
use Rattle.std.specs.Str.{bytes_eq}
use Rattle.std.specs.Option.{ok_or}
use Rattle.words.specs.Forms.{fits, letter_of, word_fit, lack_fit, both_fit, form_fit}
use Rattle.words.specs.declared.command.Why.{Why}
use Rattle.words.specs.declared.command.Why.TheVariants.{Words}

-- a test that passes, or why not
pub fits_is : (test : Bool) (why : Why) → ok_or (then_some test true) why ≡ fits test why
fits_is true why = refl
fits_is false why = refl

-- a letter that asks for nothing is a word as any other
pub other_letter : (asked w : List ℕ) (x : ℕ) → Some x ≡ letter_of asked → (((Unit {0} × (x ≡ 78 → ⊥)) × (x ≡ 70 → ⊥)) × (x ≡ 72 → ⊥)) × (x ≡ 80 → ⊥) → word_fit asked w ≡ Ok (bytes_eq asked w)
unfolding word_fit
other_letter asked w x is ((((u, n), f), h), p) = rw (sym is, ne_eqb x 78 n, ne_eqb x 70 f, ne_eqb x 72 h, ne_eqb x 80 p)

-- all is how what is left of a form and of a line fit
module _ (all : Result Bool Why) (form line : List (List ℕ)) (before : all ≡ form_fit form line) where
  pub fit_lack : (a : List ℕ) (more : List (List ℕ)) → form ≡ a ∷ more → line ≡ [] → all ≡ lack_fit a
  unfolding form_fit
  fit_lack a more e none = before ∙ rw (e, none)

  pub fit_next : (a w : List ℕ) (more ws : List (List ℕ)) → form ≡ a ∷ more → line ≡ w ∷ ws → all ≡ both_fit (word_fit a w) (form_fit more ws)
  unfolding form_fit
  fit_next a w more ws e is = before ∙ rw (e, is)

  pub fit_end : form ≡ [] → line ≡ [] → all ≡ Ok true
  unfolding form_fit
  fit_end e none = before ∙ rw (e, none)

  pub fit_more : (w : List ℕ) (ws : List (List ℕ)) → form ≡ [] → line ≡ w ∷ ws → all ≡ Err Words
  unfolding form_fit
  fit_more w ws e is = before ∙ rw (e, is)
