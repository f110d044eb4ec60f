-- What a run says where it stops with an error.
use Rattle.std.proofs.Common.{◌≡◌, ℕ, ◌+◌, ◌-◌, ◌≤◌, List, [], ◌++◌, length, Bool, true, false, Option, Some, None, refl, sym, ◌∙◌, ap, subst, append_assoc, arith, inl, inr}
use Rattle.std.specs.Prelude.{Result, Ok, Err, IfOk, IsErrAnd}
use Rattle.std.proofs.lemmas.List.{append-nil}
use Rattle.std.proofs.lemmas.Bool.Decides.{nat_tests}
use Rattle.std.proofs.lemmas.Result.{err_from_is_err_and}
use Rattle.zs_keys.specs.Stream.{HasRisen, PutsOn, TakesOff, count_after}
use Rattle.zs_lines.specs.Reading.{Reading, Reads, Answers, IsAtEnd, IsSpent}
use Rattle.zs_lines.specs.Writing.{PutsFrontOn}
use Rattle.zs_lines.specs.declared.reader.LineError.{LineError}
use Rattle.zs_lines.specs.declared.reader.LineError.TheVariants.{ReadFault as read_fault, LineTooLong as long_line, OutOfTurns as out_of_turns, NoMemory as no_memory}
use Rattle.zs_lines.proofs.Answering.{count-none, count-two}
use Rattle.zs_lines.proofs.Pieces.{both-pieces}
use Rattle.zs_driving.specs.declared.driving.Driven.{Driven}
use Rattle.zs_driving.specs.declared.errors.DriveError.{DriveError}
use Rattle.zs_driving.specs.declared.errors.DriveError.TheVariants.{ReadFault, WriteFault, BadLine, LineTooLong, OutOfTurns, NoMemory}
use Rattle.zs_driving.specs.Tasks.{Task}
use Rattle.zs_driving.specs.Driving.{Drives, DrivesTo, HasRead, HasReadAll, HasSpentTurns, IsCalm, IsDone, IsFront, StopsAt, IsNoLine, IsLong, PutsWaiting, Supply, Outlet, read_text}
use Rattle.zs_driving.specs.Errors.{drive_error}
use Rattle.zs_driving.proofs.Progress.{Progress, fresh, front_none, front_read}

-- what each error comes from
abbrev pub CauseOf : Task → DriveError → Supply → Supply → Outlet → Outlet → (List ℕ → Type 0) → Type 0
CauseOf t ReadFault before after from to Puts = HasRisen before.faults after.faults
CauseOf t WriteFault before after from to Puts = HasRisen from.faults to.faults
CauseOf t (BadLine number) before after from to Puts = StopsAt t before.left after.left Puts number (IsNoLine t)
CauseOf t (LineTooLong number) before after from to Puts = StopsAt t before.left after.left Puts number (IsLong t)
CauseOf t OutOfTurns before after from to Puts = HasSpentTurns t.turns before after
CauseOf t NoMemory before after from to Puts = Unit {0}

-- what holds at every exit
pub record IsLeft (t : Task) (r : Result Driven DriveError) (before after : Supply) (from to : Outlet) (Puts : List ℕ → Type 0) : Type 0 where
  pub front : IsFront t before.left after.left Puts
  pub few_reads : after.pieces ≤ before.pieces + t.turns
  pub source_later : before.faults ≤ after.faults
  pub sink_later : from.faults ≤ to.faults
  pub calm : IsCalm r before after from to

same_error : (r : Result Driven DriveError) (e x : DriveError) → r ≡ Err e → r ≡ Err x → e ≡ x
same_error r e x first second = cc

pub stops : (t : Task) (IsEnd : ℕ → Type 0) (e : DriveError) (before after : Supply) (from to : Outlet) (Puts : List ℕ → Type 0)
    → IsLeft t (Err e) before after from to Puts → CauseOf t e before after from to Puts → DrivesTo t IsEnd (Err e) before after from to Puts
stops t IsEnd e before after from to Puts left cause =
    let P : DriveError → Type 0 = λ x. CauseOf t x before after from to Puts in
    record {
      done = tt;
      all_read = tt;
      front = left.front;
      bad_line = λ number same. subst P (same_error (Err e) e (BadLine number) refl same) cause;
      long_line = λ number same. subst P (same_error (Err e) e (LineTooLong number) refl same) cause;
      out_of_turns = λ same. subst P (same_error (Err e) e OutOfTurns refl same) cause;
      few_reads = left.few_reads;
      read_fault = λ same. subst P (same_error (Err e) e ReadFault refl same) cause;
      write_fault = λ same. subst P (same_error (Err e) e WriteFault refl same) cause;
      source_later = left.source_later;
      sink_later = left.sink_later;
      calm = left.calm;
    }

-- an error that `?` hands on
pub handed_on : (t : Task) (IsEnd : ℕ → Type 0) (r : Result Driven DriveError) (e : DriveError) (before after : Supply) (from to : Outlet) (Puts : List ℕ → Type 0)
    → IsErrAnd r (λ y. y ≡ e) → DrivesTo t IsEnd (Err e) before after from to Puts → DrivesTo t IsEnd r before after from to Puts
handed_on t IsEnd r e before after from to Puts now drives =
    let p = err_from_is_err_and r now in
    let P : Result Driven DriveError → Type 0 = λ x. DrivesTo t IsEnd x before after from to Puts in
    subst P (sym (p.1 ∙ ap (λ y. Err y) p.2)) drives

-- where the reader stopped
pub next_cause : (t : Task) (line : LineError) (old new : Reading) (given : List ℕ) (before after : Supply) (from to : Outlet) (Puts : List ℕ → Type 0)
    → Answers old new given (Err line)
    → (line ≡ read_fault → HasRisen before.faults after.faults)
    → ((place : ℕ) → line ≡ long_line place → StopsAt t before.left after.left Puts place (IsLong t))
    → (line ≡ out_of_turns → HasSpentTurns t.turns before after)
    → CauseOf t (drive_error line) before after from to Puts
next_cause t read_fault old new given before after from to Puts a fault long spent = fault refl
next_cause t (long_line place) old new given before after from to Puts a fault long spent = long place refl
next_cause t out_of_turns old new given before after from to Puts a fault long spent = spent refl
next_cause t no_memory old new given before after from to Puts a fault long spent = tt

-- the end was not seen before, where it is not seen later
not_before : (old new : Reading) (given : List ℕ) → Reads old new given → new.ended ≡ false → old.ended ≡ false
not_before old new given reads now = go old.ended refl
  where
    go : (b : Bool) → old.ended ≡ b → b ≡ false
    go true same = let then = (reads.behind same).1 in cc
    go false same = refl

counted_on : (first count new turns mid left : ℕ) → count ≡ count_after first (turns - mid) → new ≡ count_after count (mid - left)
    → mid ≤ turns → left ≤ mid → new ≡ count_after first (turns - left)
counted_on first count new turns mid left one two low lower =
    two ∙ ap (λ c. count_after c (mid - left)) one ∙ count-two first (turns - mid) (mid - left) ∙ ap (λ n. count_after first n) (omega arith)

few : (count new turns left : ℕ) → new ≡ count_after count (turns - left) → new ≤ count + turns
few count new turns left same = grind (arith, nat_tests)

-- how many reads were made, by the turns that are left
pub record Counted (t : Task) (before now : Supply) (reader : Reading) : Type 0 where
  pub turns : reader.turns ≤ t.turns
  pub pieces : now.pieces ≡ count_after before.pieces (t.turns - reader.turns)
  pub reads : reader.ended ≡ false → now.reads ≡ count_after before.reads (t.turns - reader.turns)
  pub seen : reader.ended ≡ true → now.reads ≡ count_after before.reads (t.turns - reader.turns + 1)

pub counted_same : (t : Task) (before now : Supply) (reader reader' : Reading) → reader' ≡ reader → Counted t before now reader → Counted t before now reader'
counted_same t before now reader reader' same c = let P : Reading → Type 0 = λ r. Counted t before now r in subst P (sym same) c

-- the end was seen before, or now
seen_on : (first count new turns mid left : ℕ) → count ≡ count_after first (turns - mid) → new ≡ count_after count (mid - left + 1)
    → mid ≤ turns → left ≤ mid → new ≡ count_after first (turns - left + 1)
seen_on first count new turns mid left one two low lower =
    two ∙ ap (λ c. count_after c (mid - left + 1)) one ∙ count-two first (turns - mid) (mid - left + 1) ∙ ap (λ n. count_after first n) (omega arith)

seen_next : (t : Task) (before mid after : Supply) (old new : Reading) (given : List ℕ) → Counted t before mid old → Reads old new given
    → (old.ended ≡ true → after.reads ≡ mid.reads) → (old.ended ≡ false → new.ended ≡ true → after.reads ≡ count_after mid.reads (old.turns - new.turns + 1))
    → new.ended ≡ true → after.reads ≡ count_after before.reads (t.turns - new.turns + 1)
seen_next t before mid after old new given c read still seen ended = go old.ended refl
  where
    go : (b : Bool) → old.ended ≡ b → after.reads ≡ count_after before.reads (t.turns - new.turns + 1)
    go true was =
        let none = (read.behind was).0 in
        let same : old.turns ≡ new.turns = omega (arith, read.turns, read.bytes, ap length none) in
        still was ∙ c.seen was ∙ ap (λ n. count_after before.reads (t.turns - n + 1)) same
    go false was = seen_on before.reads mid.reads after.reads t.turns old.turns new.turns (c.reads was) (seen was ended) c.turns read.turns

pub counted_next : (t : Task) (before mid after : Supply) (old new : Reading) (given : List ℕ) → Counted t before mid old → Reads old new given
    → after.pieces ≡ count_after mid.pieces (old.turns - new.turns)
    → (new.ended ≡ false → after.reads ≡ count_after mid.reads (old.turns - new.turns)) → (old.ended ≡ true → after.reads ≡ mid.reads)
    → (old.ended ≡ false → new.ended ≡ true → after.reads ≡ count_after mid.reads (old.turns - new.turns + 1)) → Counted t before after new
counted_next t before mid after old new given c read pieces reads still seen = record {
  turns = omega (arith, c.turns, read.turns);
  pieces = counted_on before.pieces mid.pieces after.pieces t.turns old.turns new.turns c.pieces pieces c.turns read.turns;
  reads = λ ended. counted_on before.reads mid.reads after.reads t.turns old.turns new.turns (c.reads (not_before old new given read ended)) (reads ended) c.turns read.turns;
  seen = λ ended. seen_next t before mid after old new given c read still seen ended;
}

pub few_read : (t : Task) (before now : Supply) (reader : Reading) → Counted t before now reader → now.pieces ≤ before.pieces + t.turns
few_read t before now reader c = few before.pieces now.pieces t.turns reader.turns c.pieces

pub few_next : (t : Task) (before mid after : Supply) (old new : Reading) (given : List ℕ) → Counted t before mid old → Reads old new given
    → after.pieces ≡ count_after mid.pieces (old.turns - new.turns) → after.pieces ≤ before.pieces + t.turns
few_next t before mid after old new given c read pieces =
    few before.pieces after.pieces t.turns new.turns
    (counted_on before.pieces mid.pieces after.pieces t.turns old.turns new.turns c.pieces pieces c.turns read.turns)

-- all turns were spent
pub spent_all : (t : Task) (before after : Supply) (new : Reading) → Counted t before after new → new.turns ≡ 0 → new.ended ≡ false
    → (gave : List ℕ) × TakesOff before.left gave after.left × (t.turns ≤ length gave) → HasSpentTurns t.turns before after
spent_all t before after new c none unseen bytes =
    let all : t.turns - new.turns ≡ t.turns = omega (arith, none) in
    record {
      made = c.reads unseen ∙ ap (λ n. count_after before.reads n) all;
      each = c.pieces ∙ ap (λ n. count_after before.pieces n) all;
      bytes = bytes;
    }

-- all was read
pub read_all : (t : Task) (before after : Supply) (new : Reading) → Counted t before after new → new.ended ≡ true → HasReadAll before after
read_all t before after new c ended = record { count = t.turns - new.turns; made = c.seen ended; each = c.pieces }

-- a fault of one read is one of the run
pub risen_before : (old mid new : ℕ) → old ≤ mid → HasRisen mid new → HasRisen old new
risen_before old mid new later (inl less) = inl (omega arith)
risen_before old mid new later (inr last) = inr last

-- what was put out but for what waited, and then that too
pub puts_out : (old : Option (List ℕ)) (waiting : List ℕ) (mid new : Option (List ℕ)) (output : List ℕ) → PutsWaiting old waiting mid output → PutsOn mid waiting new → PutsOn old output new
puts_out old waiting mid new output put then =
    let P : List ℕ → Type 0 = λ o. PutsOn old o new in
    subst P (sym put.1) (both-pieces old mid new put.0 waiting put.2 then)

done_told : (IsEnd IsEnd' : ℕ → Type 0) → ((count : ℕ) → IsEnd count → IsEnd' count) → (r : Result Driven DriveError) → IfOk r (λ driven. IsEnd driven.events)
    → IfOk r (λ driven. IsEnd' driven.events)
done_told IsEnd IsEnd' ends (Ok driven) d = ends driven.events d
done_told IsEnd IsEnd' ends (Err error) d = tt

-- a run of a task told of another one, whose texts are the same, and of what was put out at another moment
module _ (t : Task) (text' whole' : List (List ℕ) → List ℕ) (Puts Puts' : List ℕ → Type 0) (texts : (rows : List (List ℕ)) → t.text rows ≡ text' rows)
    (wholes : (rows : List (List ℕ)) → t.whole rows ≡ whole' rows) (puts : (output : List ℕ) → Puts output → Puts' output) where
  abbrev other : Task
  other = record t { text = text'; whole = whole' }

  has_read : (left left' : Option (List ℕ)) (ended : Bool) (read : List (List ℕ)) (part : List ℕ) → HasRead t left left' ended read part → HasRead other left left' ended read part
  has_read left left' ended read part h = record { gave = h.gave; source = h.source; spent = h.spent; cut = h.cut; good = h.good }

  read_same : (read : List (List ℕ)) (closed : Bool) → read_text t read closed ≡ read_text other read closed
  read_same read true = wholes read
  read_same read false = texts read

  front_told : (left left' : Option (List ℕ)) → IsFront t left left' Puts → IsFront other left left' Puts'
  front_told left left' f = record {
    read = f.read;
    part = f.part;
    ended = f.ended;
    closed = f.closed;
    output = f.output;
    missing = f.missing;
    source = has_read left left' f.ended f.read f.part f.source;
    all = f.all;
    sink = puts f.output f.sink;
    front = f.front ∙ read_same f.read f.closed;
  }

  stop_told : (left left' : Option (List ℕ)) (number : ℕ) (IsCause : List ℕ → Type 0) → StopsAt t left left' Puts number IsCause → StopsAt other left left' Puts' number IsCause
  stop_told left left' number IsCause stop = record {
    read = stop.read;
    part = stop.part;
    ended = stop.ended;
    source = has_read left left' stop.ended stop.read stop.part stop.source;
    place = stop.place;
    cause = stop.cause;
    sink = subst Puts' (texts stop.read) (puts (t.text stop.read) stop.sink);
  }

  pub retold : (IsEnd IsEnd' : ℕ → Type 0) (r : Result Driven DriveError) (before after : Supply) (from to : Outlet) → ((count : ℕ) → IsEnd count → IsEnd' count)
      → DrivesTo t IsEnd r before after from to Puts → DrivesTo other IsEnd' r before after from to Puts'
  retold IsEnd IsEnd' r before after from to ends d = record {
    done = done_told IsEnd IsEnd' ends r d.done;
    all_read = d.all_read;
    front = front_told before.left after.left d.front;
    bad_line = λ number same. stop_told before.left after.left number (IsNoLine t) (d.bad_line number same);
    long_line = λ number same. stop_told before.left after.left number (IsLong t) (d.long_line number same);
    out_of_turns = d.out_of_turns;
    few_reads = d.few_reads;
    read_fault = d.read_fault;
    write_fault = d.write_fault;
    source_later = d.source_later;
    sink_later = d.sink_later;
    calm = d.calm;
  }

pub done_out : (t : Task) (left left' : Option (List ℕ)) (Puts Puts' : List ℕ → Type 0) (Closed : List (List ℕ) → Type 0) → ((output : List ℕ) → Puts output → Puts' output)
    → (count : ℕ) → IsDone t left left' Puts Closed count → IsDone t left left' Puts' Closed count
done_out t left left' Puts Puts' Closed puts count d = record {
  input = d.input;
  output = d.output;
  source = d.source;
  spent = d.spent;
  good = d.good;
  sink = puts d.output d.sink;
  whole = d.whole;
  machine = d.machine;
  events = d.events;
}

-- a front of what waited was written behind a front
pub front_part : (t : Task) (left left' old : Option (List ℕ)) (waiting : List ℕ) (mid new : Option (List ℕ)) → PutsFrontOn mid waiting new → IsFront t left left' (PutsWaiting old waiting mid)
    → IsFront t left left' (λ output. PutsOn old output new)
front_part t left left' old waiting mid new put f = record {
  read = f.read;
  part = f.part;
  ended = f.ended;
  closed = f.closed;
  output = f.sink.0 ++ put.0;
  missing = put.1 ++ f.missing;
  source = f.source;
  all = f.all;
  sink = both-pieces old mid new f.sink.0 put.0 f.sink.2 put.3;
  front = sym (append_assoc (f.sink.0 ++ put.0) put.1 f.missing)
      ∙ ap (λ (b : List ℕ). b ++ f.missing) (append_assoc f.sink.0 put.0 put.1 ∙ ap (λ (b : List ℕ). f.sink.0 ++ b) (sym put.2) ∙ sym f.sink.1)
      ∙ f.front;
}

pub risen_later : (old mid new : ℕ) → mid ≤ new → HasRisen old mid → HasRisen old new
risen_later old mid new later (inl less) = inl (omega arith)
risen_later old mid new later (inr last) = inr (omega arith)

-- all that waited was written at the end
pub drives_out : (t : Task) (Closed : List (List ℕ) → Type 0) (r : Result Driven DriveError) (before after : Supply) (from mid to : Outlet) (waiting : List ℕ)
    → Drives t Closed r before after from mid (PutsWaiting from.written waiting mid.written) → PutsOn mid.written waiting to.written → mid.faults ≤ to.faults → to.faults ≡ mid.faults
    → Drives t Closed r before after from to (λ output. PutsOn from.written output to.written)
drives_out t Closed r before after from mid to waiting d put later calm =
    let Puts : List ℕ → Type 0 = PutsWaiting from.written waiting mid.written in
    let Puts' : List ℕ → Type 0 = λ output. PutsOn from.written output to.written in
    let puts = λ (output : List ℕ) (p : Puts output). puts_out from.written waiting mid.written to.written output p put in
    let told = retold t t.text t.whole Puts Puts' (λ rows. refl) (λ rows. refl) puts
    (IsDone t before.left after.left Puts Closed) (IsDone t before.left after.left Puts' Closed) r before after from mid
    (done_out t before.left after.left Puts Puts' Closed puts) d in
    record {
      done = told.done;
      all_read = d.all_read;
      front = told.front;
      bad_line = told.bad_line;
      long_line = told.long_line;
      out_of_turns = d.out_of_turns;
      few_reads = d.few_reads;
      read_fault = d.read_fault;
      write_fault = λ same. risen_later from.faults mid.faults to.faults later (d.write_fault same);
      source_later = d.source_later;
      sink_later = omega (arith, d.sink_later, later);
      calm = λ no_read no_write. let same = d.calm no_read no_write in (same.0, calm ∙ same.1);
    }

-- what waited at the end could not be written
pub drives_failed : (t : Task) (Closed Closed' : List (List ℕ) → Type 0) (was r : Result Driven DriveError) (before after : Supply) (from mid to : Outlet) (waiting : List ℕ)
    → Drives t Closed was before after from mid (PutsWaiting from.written waiting mid.written) → PutsFrontOn mid.written waiting to.written
    → mid.faults ≤ to.faults → HasRisen mid.faults to.faults → IsErrAnd r (λ e. e ≡ WriteFault)
    → Drives t Closed' r before after from to (λ output. PutsOn from.written output to.written)
drives_failed t Closed Closed' was r before after from mid to waiting d put later risen now =
    let Puts : List ℕ → Type 0 = λ output. PutsOn from.written output to.written in
    let IsEnd : ℕ → Type 0 = IsDone t before.left after.left Puts Closed' in
    let left : IsLeft t (Err WriteFault) before after from to Puts = record {
      front = front_part t before.left after.left from.written waiting mid.written to.written put d.front;
      few_reads = d.few_reads;
      source_later = d.source_later;
      sink_later = omega (arith, d.sink_later, later);
      calm = λ _ other. absurd (other refl);
    } in
    handed_on t IsEnd r WriteFault before after from to Puts now
    (stops t IsEnd WriteFault before after from to Puts left (risen_before from.faults mid.faults to.faults d.sink_later risen))

-- a stop behind a call of the reader
pub err_next : (t : Task) (IsEnd : ℕ → Type 0) (e : DriveError) (r : Result Driven DriveError) (before mid after : Supply) (from to : Outlet) (Puts : List ℕ → Type 0)
    (old new : Reading) (given : List ℕ) (Took : List (List ℕ) → Type 0) (number : ℕ) → IsErrAnd r (λ y. y ≡ e)
    → Progress t before.left mid.left old Puts Took number → Counted t before mid old
    → TakesOff mid.left given after.left → Reads old new given → (IsAtEnd old mid.left → new.ended ≡ true → IsSpent mid.left after.left)
    → after.pieces ≡ count_after mid.pieces (old.turns - new.turns) → before.faults ≤ after.faults → from.faults ≤ to.faults
    → IsCalm (Err e) before after from to → CauseOf t e before after from to Puts → DrivesTo t IsEnd r before after from to Puts
err_next t IsEnd e r before mid after from to Puts old new given Took number now p counted took reads end pieces later later' calm cause =
    handed_on t IsEnd r e before after from to Puts now (stops t IsEnd e before after from to Puts (record {
      front = front_read t before.left mid.left after.left old new Puts Took number p given took reads end;
      few_reads = few_next t before mid after old new given counted reads pieces;
      source_later = later;
      sink_later = later';
      calm = calm;
    }) cause)

-- a run that came to its end
pub ends_well : (t : Task) (IsEnd : ℕ → Type 0) (driven : Driven) (before after : Supply) (from to : Outlet) (Puts : List ℕ → Type 0)
    → IsEnd driven.events → HasReadAll before after → IsLeft t (Ok driven) before after from to Puts → DrivesTo t IsEnd (Ok driven) before after from to Puts
ends_well t IsEnd driven before after from to Puts done all left = record {
  done = done;
  all_read = all;
  front = left.front;
  bad_line = λ number same. cc;
  long_line = λ number same. cc;
  out_of_turns = λ same. cc;
  few_reads = left.few_reads;
  read_fault = λ same. cc;
  write_fault = λ same. cc;
  source_later = left.source_later;
  sink_later = left.sink_later;
  calm = left.calm;
}

-- nothing was put out and nothing waits
pub begun_empty : (written : Option (List ℕ)) → PutsWaiting written [] written []
begun_empty None = ([], refl, tt)
begun_empty (Some taken) = ([], refl, ap (λ (b : List ℕ). Some b) (sym (append-nil taken)))

pub counted_fresh : (t : Task) (before : Supply) → Counted t before before (fresh t)
counted_fresh t before =
    let none : t.turns - t.turns ≡ 0 = omega arith in
    record {
      turns = omega arith;
      pieces = sym (count-none before.pieces) ∙ ap (λ n. count_after before.pieces n) (sym none);
      reads = λ unseen. sym (count-none before.reads) ∙ ap (λ n. count_after before.reads n) (sym none);
      seen = λ ended. cc;
    }

-- an error of an inner call, known to be that of a write
pub handed_error : (r : Result Driven DriveError) (e : DriveError) → IsErrAnd r (λ y. y ≡ e) → e ≡ WriteFault → IsErrAnd r (λ y. y ≡ WriteFault)
handed_error r e now same = let P : DriveError → Type 0 = λ x. IsErrAnd r (λ y. y ≡ x) in subst P same now

puts_nothing : (written : Option (List ℕ)) → PutsOn written [] written
puts_nothing None = tt
puts_nothing (Some taken) = ap (λ (b : List ℕ). Some b) (sym (append-nil taken))

-- nothing was read and nothing put out, for want of memory
pub unstarted : (t : Task) (IsEnd : ℕ → Type 0) → t.text [] ≡ [] → (before : Supply) (from : Outlet)
    → DrivesTo t IsEnd (Err NoMemory) before before from from (λ output. PutsOn from.written output from.written)
unstarted t IsEnd none before from =
    let Puts : List ℕ → Type 0 = λ output. PutsOn from.written output from.written in
    stops t IsEnd NoMemory before before from from Puts (record {
      front = front_none t before.left Puts none (puts_nothing from.written);
      few_reads = omega arith;
      source_later = omega arith;
      sink_later = omega arith;
      calm = λ _ _. (refl, refl);
    }) tt
