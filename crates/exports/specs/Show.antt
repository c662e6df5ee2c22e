-- What Show promises in numbers: no reference can be returned to C.
use Rattle.std.specs.Prelude.{List, [], ◌∷◌, Bool, cond, ℕ, ◌-◌, min, length}
use Rattle.image.specs.Promise.{Promise}

-- where Show's part begins in the row that is asked for, and its length
abbrev pub show_promise : List ℕ → List ℕ → Bool → ℕ → Promise
show_promise good_row faulty_row wants_faulty start =
    let row = cond wants_faulty faulty_row good_row in
    record { refusals = []; done = min start (length row) ∷ (length row - start) ∷ []; lent = []; filled = [] }
