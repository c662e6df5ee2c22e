-- What the rows of a table ask for, one row and some rows more, and a line's last word.
use Rattle.std.proofs.Common.{◌≡◌, refl, sym, ◌∙◌, Bool, true, false, cond, Option, Some, None, is_some, Result, Ok, Err, map, List, [], ◌∷◌, ◌++◌, ℕ, suc, ◌+◌, ◌≤◌, ◌<◌, length, get_or, drop, drop-cons, add-one, arith, Bor}
use lib.Seq.{drop-length}
use Rattle.std.proofs.lemmas.Iterator.{YieldsList, items_from_drains}
use Rattle.std.specs.Iterator.{Drains}
use Rattle.std.specs.List.{slice_split, onto_first, last_or}
use Rattle.std.specs.Option.{ok_or, unwrap_or}
use Rattle.words.specs.Parts.{words, last}
use Rattle.words.specs.Forms.{form_fit}
use Rattle.words.specs.Command.{Row, shown, chosen, first_in, or_first, asked}
use Rattle.words.specs.declared.command.Why.{Why}
use Rattle.words.specs.declared.command.Why.TheVariants.{Unknown}
use Rattle.words.specs.declared.command.Row as Code
use Rattle.words.specs.declared.command.Command.{Command}

-- what a cut gave is all of the parts
pub drained : {S A B : Type 0} {steps : S → Option A → S → Type 0} {v : A → B} {s : S} {all : List B} (given : List A) → Drains steps s given → YieldsList steps v s all → map v given ≡ all
drained given d road = items_from_drains given (d.1.0, d.1.1, λ w. (d.0, d.1.2)) road

-- the last of some parts, read from the last of what was given
pub last_given : (given : List (Bor (List ℕ))) (parts : List (List ℕ)) (none : Bor (List ℕ)) → map (λ x. x.now) given ≡ parts → none.now ≡ [] → (unwrap_or (last_or None given) none).now ≡ last parts
unfolding last
last_given [] parts none is empty = rw (sym is) empty
last_given (x ∷ xs) parts none is empty = rw (sym is) (go x xs)
  where
    go : (x : Bor (List ℕ)) (xs : List (Bor (List ℕ))) → (unwrap_or (last_or (Some x) xs) none).now ≡ last (x.now ∷ map (λ x. x.now) xs)
    go x [] = refl
    go x (y ∷ ys) = go y ys

-- it is no longer than the whole
pub last_short : (p : ℕ → Bool) (s : List ℕ) → length (last (slice_split p s)) ≤ length s
unfolding last
last_short p [] = omega arith
last_short p (x ∷ xs) = go (p x) (slice_split p xs) (last_short p xs)
  where
    go : (t : Bool) (ps : List (List ℕ)) → length (last ps) ≤ length xs → length (last (cond t ([] ∷ ps) (onto_first x ps))) ≤ suc (length xs)
    go true [] h = omega arith
    go true (q ∷ qs) h = omega arith
    go false [] h = omega arith
    go false (q ∷ []) h = omega arith
    go false (q ∷ r ∷ rs) h = omega arith

-- all is what the rows from i on ask for
module _ (rows : List Code.Row) (i : ℕ) (ws : List (List ℕ)) (all : Result (Option Command) Why) (before : all ≡ first_in (map shown (drop i rows)) ws) where
  pub row_next : (d : Code.Row) (fit : Result Bool Why) → i < length rows → fit ≡ form_fit (words (get_or rows i d).form.now) ws
      → all ≡ chosen fit (get_or rows i d).asks (first_in (map shown (drop (i + 1) rows)) ws)
  unfolding first_in
  row_next d fit room is = before ∙ rw (is, add-one, drop-cons rows i d room)

  pub row_none : i ≡ length rows → all ≡ Ok None
  unfolding first_in
  row_none end = before ∙ rw (end, drop-length)

-- where nothing was found the rest decides
pub none_found : (found rest : Result (Option Command) Why) (o : Option Command) → found ≡ Ok o → is_some o ≡ false → or_first found rest ≡ rest
none_found found rest None is none = rw is
none_found found rest (Some x) is none = cc

chosen_first : (fit : Result Bool Why) (asks : Command) (a b : Result (Option Command) Why) → chosen fit asks (or_first a b) ≡ or_first (chosen fit asks a) b
chosen_first (Ok true) asks a b = refl
chosen_first (Ok false) asks a b = refl
chosen_first (Err why) asks a b = refl

pub first_append : (xs ys : List Row) (ws : List (List ℕ)) → first_in (xs ++ ys) ws ≡ or_first (first_in xs ws) (first_in ys ws)
unfolding first_in
first_append [] ys ws = refl
first_append (r ∷ rs) ys ws = rw (first_append rs ys ws) (chosen_first (form_fit (words r.form) ws) r.asks (first_in rs ws) (first_in ys ws))

first_assoc : (a b c : Result (Option Command) Why) → or_first a (or_first b c) ≡ or_first (or_first a b) c
first_assoc (Ok (Some x)) b c = refl
first_assoc (Ok None) b c = refl
first_assoc (Err why) b c = refl

-- some rows are passed
pub rows_more : (found r : Result (Option Command) Why) (xs ys : List Row) (ws : List (List ℕ)) → r ≡ or_first found (first_in xs ws) → or_first found (first_in (xs ++ ys) ws) ≡ or_first r (first_in ys ws)
rows_more found r xs ys ws is = rw (is, first_append xs ys ws) (first_assoc found (first_in xs ws) (first_in ys ws))

pub asked_is : (o : Option Command) → ok_or o Unknown ≡ asked (Ok o)
asked_is None = refl
asked_is (Some c) = refl
