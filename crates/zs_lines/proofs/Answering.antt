-- What the calls of a reader say together.
use Rattle.std.proofs.Common.{ℕ, ◌≡◌, ◌+◌, List, [], ◌++◌, Option, Some, None, Result, Ok, Err, refl, sym, subst, ap, ◌∙◌, arith, append-nil, append_assoc, length-append}
use Rattle.std.proofs.lemmas.Result.{err_from_is_err_and}
use Rattle.std.proofs.lemmas.Bool.Decides.{nat_tests}
use Rattle.std.specs.Result.{IsErrAnd}
use Rattle.zs_keys.specs.Stream.{TakesOff, count_after, HoldsNothing}
use Rattle.zs_lines.specs.Lines.{lines}
use Rattle.zs_lines.specs.Reading.{Reading, Reads, IsTooLong, IsSpent, Keeps, Answers}
use Rattle.zs_lines.specs.declared.reader.Line.{Line}
use Rattle.zs_lines.specs.declared.reader.LineError.{LineError}
use Rattle.zs_lines.specs.declared.reader.LineError.TheVariants.{ReadFault, LineTooLong, OutOfTurns, NoMemory}

-- a reader that is as it was keeps all
pub keeps_same : (old new : Reading) → new ≡ old → Keeps old new []
keeps_same old new same = (ap (λ r. r.held) same ∙ sym (append-nil old.held), ap (λ r. r.given) same)

-- what is kept of what was kept before
keeps_before : (old mid new : Reading) (gave : List ℕ) → mid.held ≡ old.held ++ gave → mid.given ≡ old.given → Keeps mid new [] → Keeps old new gave
keeps_before old mid new gave held given kept = (kept.0 ∙ append-nil mid.held ∙ held, kept.1 ∙ given)

-- a `?` hands an error of a line on
pub answers-error : (old new : Reading) (given : Result Line LineError) (result : Result (Option Line) LineError) (e : LineError)
    → given ≡ Err e → IsErrAnd result (λ y. y ≡ e)
    → ((n : ℕ) → given ≡ Err (LineTooLong n) → (n ≡ old.given + 1) × IsTooLong old [])
    → (given ≡ Err OutOfTurns → ⊥) → new ≡ old → Answers old new [] result
answers-error old new given result e was now long never unmoved =
    let p = err_from_is_err_and result now in
    let P : Result (Option Line) LineError → Type 0 = λ r. Answers old new [] r in
    let same : given ≡ Err p.0 = cc (was, p.2) in
    subst P (sym p.1) (go p.0 same)
  where
    kept : Keeps old new []
    kept = keeps_same old new unmoved

    go : (y : LineError) → given ≡ Err y → Answers old new [] (Err y)
    go (LineTooLong n) same = let at = long n same in (at.0, at.1, kept)
    go OutOfTurns same = absurd (never same)
    go ReadFault same = kept
    go NoMemory same = kept

-- what a call answers that began with what was read before
pub answers-before : (old mid new : Reading) (gave : List ℕ) (r : Result (Option Line) LineError) → mid.held ≡ old.held ++ gave
    → mid.given ≡ old.given → mid.line_max ≡ old.line_max → Answers mid new [] r → Answers old new gave r
answers-before old mid new gave (Ok (Some line)) held given max a = record {
  line = λ more follows. ap lines (sym (append_assoc old.held gave more) ∙ ap (λ (bytes : List ℕ). bytes ++ more) (sym held)) ∙ a.line more follows;
  short = omega (arith, a.short, max);
  number = a.number ∙ ap (λ n. n + 1) given;
  given = a.given ∙ ap (λ n. n + 1) given;
  line_max = a.line_max ∙ max;
}
answers-before old mid new gave (Ok None) held given max a = (sym held ∙ sym (append-nil mid.held) ∙ a.0, a.1, a.2)
answers-before old mid new gave (Err (LineTooLong n)) held given max a = (
  a.0 ∙ ap (λ n. n + 1) given,
  λ more. let long = a.1 more in (
    long.0,
    long.1,
    ap lines (sym (append_assoc old.held gave more) ∙ ap (λ (bytes : List ℕ). bytes ++ more) (sym held)) ∙ long.2,
    omega (arith, long.3, max),
  ),
  keeps_before old mid new gave held given a.2,
)
answers-before old mid new gave (Err OutOfTurns) held given max a = (a.0, a.1, keeps_before old mid new gave held given a.2)
answers-before old mid new gave (Err ReadFault) held given max a = keeps_before old mid new gave held given a
answers-before old mid new gave (Err NoMemory) held given max a = keeps_before old mid new gave held given a

-- two calls after each other read what both read
pub reads-two : (old mid new : Reading) (gave next : List ℕ) → Reads old mid gave → Reads mid new next → Reads old new (gave ++ next)
reads-two old mid new gave next a b = record {
  turns = omega (arith, a.turns, b.turns);
  bytes = omega (arith, a.bytes, b.bytes, length-append gave next);
  behind = λ ended. let first = a.behind ended in let second = b.behind first.1 in (rw (first.0, second.0) refl, second.1);
}

-- what two calls took off a source
pub takes-two : (a b c : Option (List ℕ)) (gave next : List ℕ) → TakesOff a gave b → TakesOff b next c → TakesOff a (gave ++ next) c
takes-two None b c gave next first second = tt
takes-two (Some held) b c gave next first second =
    let P : Option (List ℕ) → Type 0 = λ o. TakesOff o next c in
    let s : TakesOff (Some first.0) next c = subst P first.2 second in
    (s.0, first.1 ∙ ap (λ (bytes : List ℕ). gave ++ bytes) s.1 ∙ sym (append_assoc gave next s.0), s.2)

pub takes-none : (a : Option (List ℕ)) → TakesOff a [] a
takes-none None = tt
takes-none (Some held) = (held, refl, refl)

-- a source that is spent behind what it gave is spent
pub spent-on : (a b c : Option (List ℕ)) (gave : List ℕ) → TakesOff a gave b → IsSpent b c → IsSpent a c
spent-on None b c gave took spent = tt
spent-on (Some held) b c gave took spent =
    let P : Option (List ℕ) → Type 0 = λ o. IsSpent o c in subst P took.2 spent

pub spent-begun : (a : Option (List ℕ)) → HoldsNothing a → IsSpent a a
spent-begun None nothing = tt
spent-begun (Some held) nothing = ap (λ (bytes : List ℕ). Some bytes) nothing

-- a count that rises by nothing, and one that rises twice
pub count-none : (count : ℕ) → count_after count 0 ≡ count
count-none count = grind (arith, nat_tests)

pub count-two : (count a b : ℕ) → count_after (count_after count a) b ≡ count_after count (a + b)
count-two count a b = grind (arith, nat_tests)

pub reads-none : (reader : Reading) → Reads reader reader []
reads-none reader = record { turns = omega arith; bytes = omega arith; behind = λ ended. (refl, ended) }

-- what was read before, and what is answered then without a read
pub answers-on : (old mid found new : Reading) (gave : List ℕ) (r : Result (Option Line) LineError) → found ≡ mid
    → mid.held ≡ old.held ++ gave → mid.given ≡ old.given → mid.line_max ≡ old.line_max → Reads old mid gave
    → Reads found new [] → Answers found new [] r → Reads old new gave × Answers old new gave r
answers-on old mid found new gave r same held given max read then a =
    let P : Reading → Type 0 = λ m. Reads m new [] in
    let Q : Reading → Type 0 = λ m. Answers m new [] r in
    let R : List ℕ → Type 0 = λ bytes. Reads old new bytes in (
      subst R (append-nil gave) (reads-two old mid new gave [] read (subst P same then)),
      answers-before old mid new gave r held given max (subst Q same a),
    )
