-- Where a line's last word names no fault, what stands for one in the table's values is asked for by no row.
use Rattle.std.proofs.Common.{◌≡◌, refl, sym, ap, ◌∙◌, Bool, true, false, cond, eqb, length, Some, None, is_some, Result, Ok, Err, List, [], ◌∷◌, ◌++◌, ℕ}
use mathlib.Core.Bool.{false≢true}
use Rattle.board.specs.Lists.{text}
use Rattle.board.specs.declared.Fault.{Fault}
use Rattle.words.specs.Parts.{words, last}
use Rattle.words.specs.Fault.{fault_of}
use Rattle.words.specs.Forms.{both_fit, fits, word_fit, form_fit}
use Rattle.words.specs.Command.{Row, chosen, first_in, table, anew_forms, image_forms, row_forms, book_forms, target_forms, other_forms}
use Rattle.words.specs.declared.command.Why.{Why}
use Rattle.words.specs.declared.command.Why.TheVariants.{Words, Fault as NoFault}
use Rattle.words.specs.declared.command.Values.{Values}
use Rattle.words.specs.declared.command.Command.{Command}

-- a fit that is Ok true has both parts so
both_true : (fit rest : Result Bool Why) → both_fit fit rest ≡ Ok true → rest ≡ Ok true
both_true (Ok true) rest e = e
both_true (Ok false) rest e = cc
both_true (Err why) rest e = cc

-- a form of the words `more` and then F
fits_last : (more ws : List (List ℕ)) → form_fit (more ++ text "F" ∷ []) ws ≡ Ok true → is_some (fault_of (last ws)) ≡ true
unfolding form_fit last word_fit
fits_last [] [] e = cc
fits_last [] (w ∷ []) e = go (is_some (fault_of w)) e
  where
    go : (t : Bool) → both_fit (fits t NoFault) (Ok true) ≡ Ok true → t ≡ true
    go true e = refl
    go false e = cc
fits_last [] (w ∷ x ∷ ws) e = let no = both_true (word_fit (text "F") w) (Err Words) e in cc
fits_last (a ∷ more) [] e = go (eqb (length a) 1) e
  where
    go : (t : Bool) → cond t (Err Words) (Ok false) ≡ Ok true → false ≡ true
    go true e = cc
    go false e = cc
fits_last (a ∷ more) (w ∷ []) e = let no = fits_last more [] (both_true (word_fit a w) _ e) in absurd (false≢true no)
fits_last (a ∷ more) (w ∷ x ∷ ws) e = fits_last more (x ∷ ws) (both_true (word_fit a w) _ e)

module _ (ws : List (List ℕ)) where
  -- rows of one form, which ask for the same where a line fits it
  row_same : (r r' : Row) (rs rs' : List Row) → r.form ≡ r'.form → (form_fit (words r.form) ws ≡ Ok true → r.asks ≡ r'.asks) → first_in rs ws ≡ first_in rs' ws → first_in (r ∷ rs) ws ≡ first_in (r' ∷ rs') ws
  unfolding first_in
  row_same r r' rs rs' form asks rest = rw (sym form, sym rest) (go (form_fit (words r.form) ws) asks)
    where
      go : (fit : Result Bool Why) → (fit ≡ Ok true → r.asks ≡ r'.asks) → chosen fit r.asks (first_in rs ws) ≡ chosen fit r'.asks (first_in rs ws)
      go (Ok true) asks = ap (λ c. Ok (Some c)) (asks refl)
      go (Ok false) asks = refl
      go (Err why) asks = refl

  -- two tables that ask for the same
  record Same (rs rs' : List Row) : Type 0 where
    is : first_in rs ws ≡ first_in rs' ws

  same : {rs : List Row} → Same rs rs
  same = record { is = refl }

  keep : {r : Row} {rs rs' : List Row} → Same rs rs' → Same (r ∷ rs) (r ∷ rs')
  keep {r} {rs} {rs'} rest = record { is = row_same r r rs rs' refl (λ e. refl) rest.is }

  module _ (none : fault_of (last ws) ≡ None) where
    unfit : (form : List ℕ) (more : List (List ℕ)) → words form ≡ more ++ (text "F" ∷ []) → form_fit (words form) ws ≡ Ok true → ⊥
    unfit form more is e = false≢true (sym (ap is_some none) ∙ fits_last more ws (rw is at e))

    pass : {form : List ℕ} {c c' : Command} {rs rs' : List Row} (more : List (List ℕ)) → words form ≡ more ++ (text "F" ∷ []) → Same rs rs'
        → Same (record { form = form; asks = c } ∷ rs) (record { form = form; asks = c' } ∷ rs')
    pass {form} {c} {c'} {rs} {rs'} more is rest = record { is = row_same _ _ rs rs' refl (λ e. absurd (unfit form more is e)) rest.is }

    -- whatever fault stands in the values, the table asks for the same
    pub fault_unasked : (v : Values) (f : Fault) → first_in (table (record v { fault = f })) ws ≡ first_in (table v) ws
    unfolding anew_forms image_forms row_forms book_forms target_forms other_forms
    fault_unasked v f =
        let all : Same (table (record v { fault = f })) (table v) =
        keep (keep (keep (keep (keep (keep (keep
        (pass (text "judge" ∷ text "N" ∷ []) refl (pass (text "find" ∷ []) refl
        (keep (keep (keep
        (pass (text "rows" ∷ text "N" ∷ []) refl
        (keep
        (pass (text "five" ∷ text "N" ∷ text "N" ∷ []) refl same))))))))))))))
        in
        all.is
