-- How far a run has come, and what each exit of its loop says.
use Rattle.std.proofs.Common.{◌≡◌, ℕ, ◌+◌, ◌≤◌, List, [], ◌∷◌, ◌++◌, length, Bool, true, false, Option, Some, None, refl, sym, ◌∙◌, ap, subst, append_assoc, length-append, arith}
use Rattle.std.specs.Prelude.{nat_le}
use Rattle.std.specs.List.{AllByRecursion}
use Rattle.std.proofs.lemmas.List.{append-nil}
use Rattle.std.proofs.lemmas.Bool.Decides.{nat_tests}
use Rattle.zs_keys.specs.Stream.{TakesOff, HoldsNothing}
use Rattle.zs_lines.specs.Lines.{lines}
use Rattle.zs_lines.specs.Reading.{Reading, Reads, IsAtEnd, IsSpent, GivesLine, IsTooLong}
use Rattle.zs_lines.specs.Writing.{PutsFrontOn}
use Rattle.zs_lines.proofs.Answering.{takes-two, takes-none}
use Rattle.zs_lines.proofs.Pieces.{both-pieces}
use Rattle.zs_driving.specs.Tasks.{Rules, Task, lines_behind, text_behind, lines_text, closed_text, is_good}
use Rattle.zs_driving.specs.Driving.{AreGood, HasRead, IsDone, IsFront, StopsAt, IsNoLine, IsLong, PutsWaiting}

-- what holds of each element of two lists holds of both together
pub all_append : {X : Type 0} (P : X → Type 0) (xs ys : List X) → AllByRecursion P xs → AllByRecursion P ys → AllByRecursion P (xs ++ ys)
all_append P [] ys first second = second
all_append P (x ∷ xs) ys first second = (first.0, all_append P xs ys first.1 second)

-- a reader that has read nothing yet
abbrev pub fresh : Task → Reading
fresh t = record { held = []; ended = false; turns = t.turns; given = 0; line_max = t.line_max }

-- how far a run has come: `read` are the lines that it took, and `Took` holds of them, the newest first
pub record Progress (t : Task) (left left' : Option (List ℕ)) (reader : Reading) (Puts : List ℕ → Type 0) (Took : List (List ℕ) → Type 0) (number : ℕ) : Type 0 where
  pub read : List (List ℕ)
  pub source : HasRead t left left' reader.ended read reader.held
  pub stands : Took (lines_behind [] read)
  pub output : Puts (t.text read)
  pub count : number ≡ length read
  pub given : reader.given ≡ length read
  pub line_max : reader.line_max ≡ t.line_max
  pub turns : t.turns ≤ length source.gave + reader.turns

text_behind-append : (r : Rules) (h rows more : List (List ℕ)) → text_behind r h (rows ++ more) ≡ text_behind r h rows ++ text_behind r (lines_behind h rows) more
text_behind-append r h [] more = refl
text_behind-append r h (row ∷ rows) more =
    ap (λ text. r.line_text h row ++ text) (text_behind-append r (row ∷ h) rows more)
    ∙ sym (append_assoc (r.line_text h row) (text_behind r (row ∷ h) rows) (text_behind r (lines_behind (row ∷ h) rows) more))

lines_behind-push : (h rows : List (List ℕ)) (row : List ℕ) → lines_behind h (rows ++ row ∷ []) ≡ row ∷ lines_behind h rows
lines_behind-push h [] row = refl
lines_behind-push h (first ∷ rows) row = lines_behind-push (first ∷ h) rows row

length-behind : (h rows : List (List ℕ)) → length (lines_behind h rows) ≡ length rows + length h
length-behind h [] = omega arith
length-behind h (row ∷ rows) = omega (arith, length-behind (row ∷ h) rows)

-- as many lines stand before the next one as were read
pub length_read : (rows : List (List ℕ)) → length (lines_behind [] rows) ≡ length rows
length_read rows = omega (arith, length-behind [] rows)

-- the text with one more line
pub text_push : (r : Rules) (rows : List (List ℕ)) (row : List ℕ) → lines_text r (rows ++ row ∷ []) ≡ lines_text r rows ++ r.line_text (lines_behind [] rows) row
text_push r rows row =
    text_behind-append r [] rows (row ∷ []) ∙ ap (λ more. lines_text r rows ++ more) (append-nil (r.line_text (lines_behind [] rows) row))

good_row : (t : Task) (row : List ℕ) → t.is_line row ≡ true → length row ≤ t.line_max → is_good t row ≡ true
good_row t row known short = rw known (grind (arith, nat_tests, short))

none_read : (t : Task) (left : Option (List ℕ)) → HasRead t left left false [] []
none_read t left = record {
  gave = [];
  source = takes-none left;
  spent = λ ended. cc;
  cut = λ more follows. refl;
  good = tt;
}

-- at the start nothing was taken
pub begun : (t : Task) (left : Option (List ℕ)) (Puts : List ℕ → Type 0) (Took : List (List ℕ) → Type 0) → Took [] → Puts (t.text [])
    → Progress t left left (fresh t) Puts Took 0
begun t left Puts Took stands put = record {
  read = [];
  source = none_read t left;
  stands = stands;
  output = put;
  count = refl;
  given = refl;
  line_max = refl;
  turns = omega arith;
}

-- nothing was read, and nothing put out
pub front_none : (t : Task) (left : Option (List ℕ)) (Puts : List ℕ → Type 0) → t.text [] ≡ [] → Puts [] → IsFront t left left Puts
front_none t left Puts none put = record {
  read = [];
  part = [];
  ended = false;
  closed = false;
  output = [];
  missing = [];
  source = none_read t left;
  all = λ closed. cc;
  sink = put;
  front = sym none;
}

-- the end of a source that tells is seen where it holds nothing
pub spent_next : (left mid new : Option (List ℕ)) (gave : List ℕ) (before after : Bool) → TakesOff left gave mid
    → (before ≡ true → IsSpent left mid) → ((before ≡ true → HoldsNothing mid) → after ≡ true → IsSpent mid new)
    → after ≡ true → IsSpent left new
spent_next None mid new gave before after took spent next ended = tt
spent_next (Some held) mid new gave before after took spent next ended =
    let P : Option (List ℕ) → Type 0 = λ o. (before ≡ true → IsSpent (Some held) o) → ((before ≡ true → HoldsNothing o) → after ≡ true → IsSpent o new) → IsSpent (Some held) new in
    subst P (sym took.2) (λ is then. then (λ b. let e : Some took.0 ≡ Some [] = is b in cc) ended) spent next

-- what was read with the bytes of one call more, of which no line was taken yet
abbrev pub read_on : (t : Task) (left mid new : Option (List ℕ)) (old after : Reading) (read : List (List ℕ)) (given : List ℕ)
    → HasRead t left mid old.ended read old.held → TakesOff mid given new → Reads old after given
    → (IsAtEnd old mid → after.ended ≡ true → IsSpent mid new)
    → HasRead t left new after.ended read (old.held ++ given)
read_on t left mid new old after read given has took reads end = record {
  gave = has.gave ++ given;
  source = takes-two left mid new has.gave given has.source took;
  spent = spent_next left mid new has.gave old.ended after.ended has.source has.spent end;
  cut = λ more follows.
      ap lines (append_assoc has.gave given more)
      ∙ has.cut (given ++ more) (λ ended. let behind = reads.behind ended in rw (behind.0, follows behind.1) refl)
      ∙ ap (λ bytes. read ++ lines bytes) (sym (append_assoc old.held given more));
  good = has.good;
}

-- what one line more adds to those that were read
module _ (t : Task) (left mid new : Option (List ℕ)) (old after : Reading) (Puts : List ℕ → Type 0) (Took : List (List ℕ) → Type 0) (number place : ℕ) (bytes : List ℕ)
    (p : Progress t left mid old Puts Took number) (given : List ℕ) (took : TakesOff mid given new) (reads : Reads old after given)
    (end : IsAtEnd old mid → after.ended ≡ true → IsSpent mid new) (g : GivesLine old after given place bytes) where
  short : length bytes ≤ t.line_max
  short = omega (arith, g.short, p.line_max)

  place_is : place ≡ length p.read + 1
  place_is = omega (arith, g.number, p.given)

  -- its number is the one behind those before
  pub is_next : place ≡ length (lines_behind [] p.read) + 1
  is_next = omega (arith, place_is, length_read p.read)

  abbrev has : HasRead t left new after.ended p.read (old.held ++ given)
  has = read_on t left mid new old after p.read given p.source took reads end

  -- the line was taken
  pub went_on : (Puts' : List ℕ → Type 0) (Took' : List (List ℕ) → Type 0) → t.is_line bytes ≡ true → Took' (bytes ∷ lines_behind [] p.read)
      → Puts' (t.text (p.read ++ bytes ∷ [])) → Progress t left new after Puts' Took' place
  went_on Puts' Took' known stands put = record {
    read = p.read ++ bytes ∷ [];
    source = record {
      gave = has.gave;
      source = has.source;
      spent = has.spent;
      cut = λ more follows.
          has.cut more follows
          ∙ ap (λ rows. p.read ++ rows) (ap lines (append_assoc old.held given more) ∙ g.line more follows)
          ∙ sym (append_assoc p.read (bytes ∷ []) (lines (after.held ++ more)));
      good = all_append (λ row. is_good t row ≡ true) p.read (bytes ∷ []) p.source.good (good_row t bytes known short, tt);
    };
    stands = subst Took' (sym (lines_behind-push [] p.read bytes)) stands;
    output = put;
    count = place_is ∙ sym (length-append p.read (bytes ∷ []));
    given = g.given ∙ omega (arith, p.given, length-append p.read (bytes ∷ []));
    line_max = g.line_max ∙ p.line_max;
    turns = omega (arith, p.turns, reads.bytes, length-append p.source.gave given);
  }

  -- the line was not taken
  pub stopped : t.is_line bytes ≡ false → StopsAt t left new Puts place (IsNoLine t)
  stopped unknown = record {
    read = p.read;
    part = old.held ++ given;
    ended = after.ended;
    source = has;
    place = place_is;
    cause = λ more follows. (bytes, lines (after.held ++ more), ap lines (append_assoc old.held given more) ∙ g.line more follows, (short, unknown));
    sink = p.output;
  }

-- what was read and not taken
module _ (t : Task) (left mid new : Option (List ℕ)) (old after : Reading) (Puts : List ℕ → Type 0) (Took : List (List ℕ) → Type 0) (number : ℕ)
    (p : Progress t left mid old Puts Took number) (given : List ℕ) (took : TakesOff mid given new) (reads : Reads old after given)
    (end : IsAtEnd old mid → after.ended ≡ true → IsSpent mid new) where
  -- all that was taken was put out
  pub front_read : IsFront t left new Puts
  front_read = record {
    read = p.read;
    part = old.held ++ given;
    ended = after.ended;
    closed = false;
    output = t.text p.read;
    missing = [];
    source = read_on t left mid new old after p.read given p.source took reads end;
    all = λ closed. cc;
    sink = p.output;
    front = append-nil (t.text p.read);
  }

  -- the next line is too long
  pub stopped_long : (place : ℕ) → place ≡ old.given + 1 → IsTooLong old given → StopsAt t left new Puts place (IsLong t)
  stopped_long place same long = record {
    read = p.read;
    part = old.held ++ given;
    ended = after.ended;
    source = read_on t left mid new old after p.read given p.source took reads end;
    place = omega (arith, same, p.given);
    cause = λ more follows. let first = long more in
        (first.0, first.1, ap lines (append_assoc old.held given more) ∙ first.2, omega (arith, first.3, p.line_max));
    sink = p.output;
  }

  -- the turns were spent
  pub spent_turns : after.turns ≡ 0 → (gave : List ℕ) × TakesOff left gave new × (t.turns ≤ length gave)
  spent_turns none = (
    p.source.gave ++ given,
    takes-two left mid new p.source.gave given p.source.source took,
    omega (arith, p.turns, reads.bytes, none, length-append p.source.gave given),
  )

  -- the end has the number behind the lines before
  pub end_is_next : (place : ℕ) → place ≡ number + 1 → place ≡ length (lines_behind [] p.read) + 1
  end_is_next place same = omega (arith, same, p.count, length_read p.read)

  -- all lines were read, and the end was taken
  module _ (Puts' : List ℕ → Type 0) (Closed : List (List ℕ) → Type 0) (empty : old.held ++ given ≡ []) (ended : after.ended ≡ true)
      (put : Puts' (t.whole p.read)) where
    has_all : HasRead t left new true p.read []
    has_all =
        let P : Bool → Type 0 = λ b. HasRead t left new b p.read (old.held ++ given) in
        let Q : List ℕ → Type 0 = λ bytes. HasRead t left new true p.read bytes in
        subst Q empty (subst P ended (read_on t left mid new old after p.read given p.source took reads end))

    all_read : lines has_all.gave ≡ p.read
    all_read = ap lines (sym (append-nil has_all.gave)) ∙ has_all.cut [] (λ b. refl) ∙ append-nil p.read

    pub closed : Closed p.read → (place : ℕ) → place ≡ number + 1 → IsDone t left new Puts' Closed place
    closed holds place same = record {
      input = has_all.gave;
      output = t.whole (lines has_all.gave);
      source = has_all.source;
      spent = has_all.spent refl;
      good = rw all_read p.source.good;
      sink = subst (λ (rows : List (List ℕ)). Puts' (t.whole rows)) (sym all_read) put;
      whole = refl;
      machine = subst Closed (sym all_read) holds;
      events = omega (arith, same, p.count, ap (λ (rows : List (List ℕ)). length rows) all_read);
    }

    pub front_closed : IsFront t left new Puts'
    front_closed = record {
      read = p.read;
      part = [];
      ended = true;
      closed = true;
      output = t.whole p.read;
      missing = [];
      source = has_all;
      all = λ closed. (refl, refl);
      sink = put;
      front = append-nil (t.whole p.read);
    }

-- what waited was written in part
pub front_written : (t : Task) (left mid : Option (List ℕ)) (reader : Reading) (Took : List (List ℕ) → Type 0) (number : ℕ) (old written new : Option (List ℕ)) (waiting : List ℕ)
    (p : Progress t left mid reader (PutsWaiting old waiting written) Took number) → PutsFrontOn written waiting new
    → IsFront t left mid (PutsWaiting old [] new)
front_written t left mid reader Took number old written new waiting p put = record {
  read = p.read;
  part = reader.held;
  ended = reader.ended;
  closed = false;
  output = p.output.0 ++ put.0;
  missing = put.1;
  source = p.source;
  all = λ closed. cc;
  sink = (p.output.0 ++ put.0, sym (append-nil (p.output.0 ++ put.0)), both-pieces old written new p.output.0 put.0 p.output.2 put.3);
  front = append_assoc p.output.0 put.0 put.1 ∙ ap (λ (b : List ℕ). p.output.0 ++ b) (sym put.2) ∙ sym p.output.1;
}

-- a text waits behind what waited
pub waits_on : (old : Option (List ℕ)) (waiting waiting' : List ℕ) (written : Option (List ℕ)) (output more whole : List ℕ) → waiting' ≡ waiting ++ more → whole ≡ output ++ more
    → PutsWaiting old waiting written output → PutsWaiting old waiting' written whole
waits_on old waiting waiting' written output more whole then all put =
    (put.0, all ∙ ap (λ (b : List ℕ). b ++ more) put.1 ∙ append_assoc put.0 waiting more ∙ ap (λ (b : List ℕ). put.0 ++ b) (sym then), put.2)

-- the same progress, where what was put out is told of another moment
pub told_of : (t : Task) (left left' : Option (List ℕ)) (reader : Reading) (Puts Puts' : List ℕ → Type 0) (Took : List (List ℕ) → Type 0) (number : ℕ)
    → Progress t left left' reader Puts Took number → ((output : List ℕ) → Puts output → Puts' output)
    → Progress t left left' reader Puts' Took number
told_of t left left' reader Puts Puts' Took number p put = record {
  read = p.read;
  source = p.source;
  stands = p.stands;
  output = put (t.text p.read) p.output;
  count = p.count;
  given = p.given;
  line_max = p.line_max;
  turns = p.turns;
}

-- the same progress, where the reader was asked and what waited was written if it was due
pub due : (t : Task) (left left' old : Option (List ℕ)) (reader reader' : Reading) (waiting waiting' : List ℕ) (written written' : Option (List ℕ))
    (Took : List (List ℕ) → Type 0) (number : ℕ) → reader' ≡ reader → Progress t left left' reader (PutsWaiting old waiting written) Took number
    → ((output : List ℕ) (o : Option (List ℕ)) → PutsWaiting o waiting written output → PutsWaiting o waiting' written' output)
    → Progress t left left' reader' (PutsWaiting old waiting' written') Took number
due t left left' old reader reader' waiting waiting' written written' Took number same p put =
    let P : Reading → Type 0 = λ r. Progress t left left' r (PutsWaiting old waiting written) Took number in
    told_of t left left' reader' _ _ Took number (subst P (sym same) p) (λ output was. put output old was)
