-- Equations between tests: what becomes of an identity at a landing, a take and a put.
use Rattle.std.proofs.Common.{◌≡◌, Bool, true, false, not, ◌&&◌, ◌||◌, refl, sym, ap, ◌∙◌}
use Rattle.std.proofs.lemmas.Bool.{false≢true, or_from}

pub or_none : (x : Bool) → (x || false) ≡ x
or_none true = refl
or_none false = refl

pub or_swapped : (a b : Bool) → (a || b) ≡ (b || a)
or_swapped true true = refl
or_swapped true false = refl
or_swapped false true = refl
or_swapped false false = refl

pub or_together : (a b c : Bool) → ((a || b) || c) ≡ (a || (b || c))
or_together true b c = refl
or_together false b c = refl

-- In these `is` says that the number is an identity, `old` and `new` that it stands in the old and
-- in the new place, `here` that it is of the word in question, `bit` that its bit is carried.

-- a store lands in the old place
pub land_law : (is old bit new asked : Bool) → (((is && (old || bit)) || new) || (is && asked)) ≡ ((is && ((old || (is && asked)) || bit)) || new)
land_law false old bit new asked = or_none new
land_law true true bit new asked = refl
land_law true false bit new asked = ap (λ x. x || asked) (or_swapped bit new) ∙ or_together new bit asked ∙ or_swapped new (bit || asked)
    ∙ ap (λ x. x || new) (or_swapped bit asked)

-- a word is taken
pub take_law : (is old new here bit : Bool) → (here ≡ true → bit ≡ old)
    → ((is && (old || false)) || new) ≡ ((is && ((not here && old) || (here && bit))) || new)
take_law is old new true bit same = ap (λ x. (is && x) || new) (or_none old ∙ sym (same refl))
take_law is old new false bit same = refl

-- a word is put: added to what is there
pub put_law : (is old new here bit : Bool) → ((is && (old || (here && bit))) || new) ≡ ((is && (old || false)) || (new || (here && (is && bit))))
put_law false old new true bit = sym (or_none new)
put_law false old new false bit = sym (or_none new)
put_law true true new here bit = refl
put_law true false new here bit = or_swapped (here && bit) new

-- a word is put: in place of what is there, which is nothing
pub replace_law : (is old new here bit : Bool) → (here ≡ true → new ≡ false)
    → ((is && (old || (here && bit))) || new) ≡ ((is && (old || false)) || ((not here && new) || (here && (is && bit))))
replace_law false old new true bit fresh = fresh refl
replace_law true true new true bit fresh = refl
replace_law true false new true bit fresh = ap (λ x. bit || x) (fresh refl) ∙ or_none bit
replace_law is old new false bit fresh = ap (λ x. (is && (old || false)) || x) (sym (or_none new))

-- the word that was taken is empty, and the others that were taken before
pub drain_law : (here old later : Bool) → later ≡ false → ((here || later) ≡ false → old ≡ false) → (not here && old) ≡ false
drain_law true old later none h = refl
drain_law false old later none h = h none

-- the new place has nothing yet of a word that is still to be taken
pub fresh_law : (is here new later bit : Bool) → (here ≡ true → later ≡ false) → ((here || later) ≡ true → new ≡ false) → later ≡ true
    → ((not here && new) || (here && (is && bit))) ≡ false
fresh_law is true new later bit gone h e = absurd (false≢true (sym (gone refl) ∙ e))
fresh_law is false new later bit gone h e = or_from new false (h e) refl

-- at the end
pub nothing_left : (due is old new : Bool) → due ≡ ((is && (old || false)) || new) → old ≡ false → new ≡ due
nothing_left due true old new e none = sym (e ∙ ap (λ x. (x || false) || new) none)
nothing_left due false old new e none = sym e
