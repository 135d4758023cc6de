-- What a text of a plan file says: a declaration, a step, or the begin of a plan. Profile.
use Rattle.std.specs.Prelude.{ℕ, ◌+◌, ◌-◌, ◌*◌, Bool, not, nat_eq, nat_le, if◌then◌else◌, List, [], ◌∷◌, length, take, drop, Option, Some, None, codes, position}
use Rattle.std.specs.Int.{is_in_range}
use Rattle.std.specs.Str.{bytes_eq}
use Rattle.plans_rules.specs.declared.step.AnyPlace.{AnyPlace}
use Rattle.plans_rules.specs.declared.step.AnyPlace.TheVariants.{Old, New}
use Rattle.plans_rules.specs.declared.step.WhichSet.{WhichSet}
use Rattle.plans_rules.specs.declared.step.WhichSet.TheVariants.{Pending, Enabled}
use Rattle.plans_rules.specs.declared.step.Number.{Number}
use Rattle.plans_rules.specs.declared.step.Number.TheVariants.{Threshold, Delivery}
use Rattle.plans_rules.specs.declared.step.AnyStep.{AnyStep}
use Rattle.plans_rules.specs.declared.step.AnyStep.TheVariants as steps
use Rattle.plans_rules.specs.declared.setting.RouteKind.{RouteKind}
use Rattle.plans_rules.specs.declared.setting.RouteKind.TheVariants.{Routed, Switched}
use Rattle.plans_rules.specs.declared.setting.NumberSpot.{NumberSpot}
use Rattle.plans_rules.specs.declared.setting.NumberSpot.TheVariants.{InOld, InHand, InNew}
use Rattle.plans_counterexamples.specs.Search.{or_else}
use Rattle.plans_text.specs.declared.limits.TheConstants.{LINE_BYTES}
use Rattle.plans_text.specs.declared.line.PlanLine.{PlanLine}
use Rattle.plans_text.specs.declared.line.PlanLine.TheVariants as lines
use Rattle.plans_text.specs.declared.line.Thing.{Thing}
use Rattle.plans_text.specs.declared.line.Thing.TheVariants as things
use Rattle.plans_text.specs.declared.line.Reading.{Reading}
use Rattle.plans_text.specs.declared.line.Reading.TheVariants as readings

-- A text, as its bytes.
abbrev pub Text : Type 0
Text = List ℕ

infixl 10 ◌>>=◌
-- What comes of a value, where there is one.
abbrev pub ◌>>=◌ : {A B : Type 0} → Option A → (A → Option B) → Option B
None >>= f = None
(Some x) >>= f = f x

-- ---- words

-- A text without its comment, which begins with `#`.
abbrev pub before_comment : Text → Text
before_comment text = elim (position (λ byte. nat_eq byte 35) text) [
  | None ↦ text
  | Some at ↦ take at text
]

-- Where the word with which a text begins ends.
abbrev pub word_end : Text → ℕ
word_end text = elim (position (λ byte. nat_eq byte 32) text) [
  | None ↦ length text
  | Some at ↦ at
]

-- A text cut after the word with which it begins.
abbrev pub cut_word : Text → Text × Text
cut_word text = (take (word_end text) text, drop (word_end text) text)

-- The next word of a text, and the text after it: any number of spaces stands before a word.
unfoldable pub next_word : Text → Option (Text × Text)
next_word text = elim (position (λ byte. not (nat_eq byte 32)) text) [
  | None ↦ None
  | Some at ↦ Some (cut_word (drop at text))
]

-- What was read, where no word is left.
abbrev pub at_end : {A : Type 0} → Text → A → Option A
at_end text read = elim (next_word text) [ None ↦ Some read | Some word ↦ None ]

-- ---- numbers: one or two decimal digits

-- Whether a byte is a decimal digit.
abbrev pub is_digit : ℕ → Bool
is_digit byte = is_in_range 48 57 byte

-- The number that a word of one or two decimal digits spells.
abbrev pub numeral_of : Text → Option ℕ
numeral_of (d ∷ []) = if is_digit d then Some (d - 48) else None
numeral_of (d ∷ e ∷ []) =
    if is_digit d then (if is_digit e then Some (10 * (d - 48) + (e - 48)) else None) else None
numeral_of word = None

-- The number that the next word spells, and the text after it.
unfoldable pub numeral_at : Text → Option (ℕ × Text)
numeral_at text = do
  word ← next_word text
  n ← numeral_of word.0
  Some (n, word.1)

-- ---- names

-- The set that a word names.
abbrev pub bank_named : Text → Option WhichSet
bank_named word =
    if bytes_eq word (codes "pending") then Some Pending
    else if bytes_eq word (codes "enabled") then Some Enabled else None

-- The number that a word names.
abbrev pub number_named : Text → Option Number
number_named word =
    if bytes_eq word (codes "threshold") then Some Threshold
    else if bytes_eq word (codes "delivery") then Some Delivery else None

-- The place that a word names.
abbrev pub place_named : Text → Option AnyPlace
place_named word =
    if bytes_eq word (codes "old") then Some Old
    else if bytes_eq word (codes "new") then Some New else None

-- The spot that a word names: the old place, the hand or the new place.
abbrev pub spot_named : Text → Option NumberSpot
spot_named word =
    if bytes_eq word (codes "old") then Some InOld
    else if bytes_eq word (codes "hand") then Some InHand
    else if bytes_eq word (codes "new") then Some InNew else None

-- The kind of producer that a word names.
abbrev pub kind_named : Text → Option RouteKind
kind_named word =
    if bytes_eq word (codes "routed") then Some Routed
    else if bytes_eq word (codes "switched") then Some Switched else None

-- ---- what a step moves: a number, or a word of a set

-- The word of a set that the next two words name, and the text after them.
unfoldable pub word_at : Text → Option (Thing × Text)
word_at text = do
  word ← next_word text
  bank ← bank_named word.0
  number ← numeral_at word.1
  Some (things.Word bank number.0, number.1)

-- The number, threshold or delivery, that the next word names, and the text after it.
unfoldable pub number_thing_at : Text → Option (Thing × Text)
number_thing_at text = do
  word ← next_word text
  number ← number_named word.0
  Some (things.Number number, word.1)

-- The number or the word of a set that a text names, and the text after it.
unfoldable pub thing_at : Text → Option (Thing × Text)
thing_at text = elim (number_thing_at text) [ Some thing ↦ Some thing | None ↦ word_at text ]

-- The step that zeroes such a thing in a place.
abbrev pub zero_of : AnyPlace → Thing → AnyStep
zero_of place (things.Word bank word) = steps.Zero place bank word
zero_of place (things.Number number) = steps.ZeroNumber place number

-- The step that takes it from the old place.
abbrev pub take_of : Thing → AnyStep
take_of (things.Word bank word) = steps.Take bank word
take_of (things.Number number) = steps.TakeNumber number

-- The step that copies it from the old place.
abbrev pub copy_of : Thing → AnyStep
copy_of (things.Word bank word) = steps.Copy bank word
copy_of (things.Number number) = steps.CopyNumber number

-- The step that puts it in the new place.
abbrev pub put_of : Thing → AnyStep
put_of (things.Word bank word) = steps.Put bank word
put_of (things.Number number) = steps.PutNumber number

-- The step that joins it to the new place; a number is not joined.
abbrev pub join_of : Thing → Option AnyStep
join_of (things.Word bank word) = Some (steps.Join bank word)
join_of (things.Number number) = None

-- ---- steps, by their names

-- A step with a number, which is the one word of a text.
unfoldable pub numbered_at : (ℕ → AnyStep) → Text → Option AnyStep
numbered_at step text = do
  number ← numeral_at text
  at_end number.1 (step number.0)

-- What follows `zero`: a place, and what is zeroed there.
unfoldable pub zero_at : Text → Option AnyStep
zero_at text = do
  word ← next_word text
  place ← place_named word.0
  thing ← thing_at word.1
  at_end thing.1 (zero_of place thing.0)

-- What follows `take`.
unfoldable pub take_at : Text → Option AnyStep
take_at text = do
  thing ← thing_at text
  at_end thing.1 (take_of thing.0)

-- What follows `copy`.
unfoldable pub copy_at : Text → Option AnyStep
copy_at text = do
  thing ← thing_at text
  at_end thing.1 (copy_of thing.0)

-- What follows `put`.
unfoldable pub put_at : Text → Option AnyStep
put_at text = do
  thing ← thing_at text
  at_end thing.1 (put_of thing.0)

-- What follows `join`.
unfoldable pub join_at : Text → Option AnyStep
join_at text = do
  thing ← thing_at text
  step ← join_of thing.0
  at_end thing.1 step

-- A step about routes, by its name and the text after it.
abbrev pub routing_named : Text → Text → Option AnyStep
routing_named name text =
    if bytes_eq name (codes "route") then numbered_at steps.Route text
    else if bytes_eq name (codes "fence") then numbered_at steps.Fence text
    else if bytes_eq name (codes "switch") then numbered_at steps.Switch text
    else if bytes_eq name (codes "pause") then numbered_at steps.Pause text
    else if bytes_eq name (codes "resume") then numbered_at steps.Resume text else None

-- A step that moves something, by its name and the text after it.
abbrev pub moving_named : Text → Text → Option AnyStep
moving_named name text =
    if bytes_eq name (codes "zero") then zero_at text
    else if bytes_eq name (codes "take") then take_at text
    else if bytes_eq name (codes "copy") then copy_at text
    else if bytes_eq name (codes "join") then join_at text
    else if bytes_eq name (codes "put") then put_at text else None

-- The step that the word after `write` names.
abbrev pub notice_named : Text → Option AnyStep
notice_named word =
    if bytes_eq word (codes "notice") then Some steps.WriteNotice else None

-- What follows `write`.
unfoldable pub write_at : Text → Option AnyStep
write_at text = do
  word ← next_word text
  step ← notice_named word.0
  at_end word.1 step

-- A step about notices, or `free`, by its name and the text after it.
abbrev pub telling_named : Text → Text → Option AnyStep
telling_named name text =
    if bytes_eq name (codes "look") then numbered_at steps.Look text
    else if bytes_eq name (codes "post") then at_end text steps.Post
    else if bytes_eq name (codes "tell") then at_end text steps.Tell
    else if bytes_eq name (codes "untell") then at_end text steps.Untell
    else if bytes_eq name (codes "write") then write_at text
    else if bytes_eq name (codes "free") then at_end text steps.Free else None

-- The step that a name spells with the text after it.
unfoldable pub step_named : Text → Text → Option AnyStep
step_named name text =
    or_else (routing_named name text)
    (or_else (moving_named name text) (telling_named name text))

-- ---- declarations, by their names

-- What follows `words`: how many words each set has.
unfoldable pub words_at : Text → Option PlanLine
words_at text = do
  number ← numeral_at text
  at_end number.1 (lines.Words number.0)

-- What follows `producer`: its kind.
unfoldable pub producer_at : Text → Option PlanLine
producer_at text = do
  word ← next_word text
  kind ← kind_named word.0
  at_end word.1 (lines.Producer kind)

-- What follows `numbers`: where they stand at first, and where in the end.
unfoldable pub numbers_at : Text → Option PlanLine
numbers_at text = do
  first ← next_word text
  from ← spot_named first.0
  second ← next_word first.1
  to ← spot_named second.0
  at_end second.1 (lines.Numbers from to)

-- The declaration that the word after `notices` makes.
abbrev pub unset_named : Text → Option PlanLine
unset_named word = if bytes_eq word (codes "unset") then Some lines.NoticesUnset else None

-- What follows `notices`.
unfoldable pub notices_at : Text → Option PlanLine
notices_at text = do
  word ← next_word text
  line ← unset_named word.0
  at_end word.1 line

-- A line that is one word, by that and the text after it.
abbrev pub flag_named : Text → Text → Option PlanLine
flag_named name text =
    if bytes_eq name (codes "plan") then at_end text lines.Plan
    else if bytes_eq name (codes "fresh") then at_end text lines.Fresh
    else if bytes_eq name (codes "memory") then at_end text lines.Memory
    else if bytes_eq name (codes "heeds") then at_end text lines.Heeds
    else if bytes_eq name (codes "inherited") then at_end text lines.Inherited else None

-- A declaration, or the begin of a plan, by its name and the text after it.
abbrev pub declaration_named : Text → Text → Option PlanLine
declaration_named name text =
    if bytes_eq name (codes "words") then words_at text
    else if bytes_eq name (codes "producer") then producer_at text
    else if bytes_eq name (codes "numbers") then numbers_at text
    else if bytes_eq name (codes "notices") then notices_at text else flag_named name text

-- A step as a line.
abbrev pub step_line : Option AnyStep → Option PlanLine
step_line None = None
step_line (Some step) = Some (lines.Step step)

-- The line that a name spells with the text after it.
abbrev pub line_named : Text → Text → Option PlanLine
line_named name text =
    or_else (declaration_named name text) (step_line (step_named name text))

-- ---- a text

-- What a text is that spells no line, by its first word: a plan that begins there is bad.
abbrev pub bad_by : Text → Reading
bad_by word = if bytes_eq word (codes "plan") then readings.BadPlan else readings.Bad

-- What a text says that has a word: a line, or it is bad.
abbrev pub line_or_bad : Text → Option PlanLine → Reading
line_or_bad word None = bad_by word
line_or_bad word (Some line) = readings.Line line

-- What a text says, by its first word and the text after that.
abbrev pub words_read : Option (Text × Text) → Reading
words_read None = readings.Skip
words_read (Some word) = line_or_bad word.0 (line_named word.0 word.1)

-- What one that is too long is.
abbrev pub long_read : Option (Text × Text) → Reading
long_read None = readings.Bad
long_read (Some word) = bad_by word.0

-- What a text says: nothing, where it has no word; one that is too long is bad.
unfoldable pub reading : Text → Reading
reading text =
    if nat_le (length text) LINE_BYTES then words_read (next_word (before_comment text))
    else long_read (next_word (before_comment text))
