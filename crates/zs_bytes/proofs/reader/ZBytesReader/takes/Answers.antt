use Rattle.std.proofs.Common.{arith, ◌≡◌, ◌+◌, ◌-◌, ℕ, List, length, take, drop, sym, ◌∙◌, ap, refl}
use Rattle.zs_bytes.proofs.Comparing.{not-short, not-piece, same-more, never, differs, agrees}
use Rattle.zs_bytes.proofs.Pieces.{unread-moved, moved-moved}
use Rattle.zs_bytes.proofs.reader.ZBytesReader.takes.Goals as goal

-- the length of the piece of the bytes that is compared
span : (a n : ℕ) (ys : List ℕ) → take (a + n - a) (drop a ys) ≡ take n (drop a ys)
span a n ys = ap (λ (m : ℕ). take m (drop a ys)) (omega arith)

pub returns-then-is_empty-clause-same : goal.returns-then-is_empty-clause-same
returns-then-is_empty-clause-same c =
    let left = unread-moved c.args.self.now c.pieces.self c.pieces.count c.pieces.invariant.after in
    let none : length c.take_piece-piece.result.now ≡ 0 = grind arith in
    let ended = c.take_piece-piece.ensures.end none (omega arith) in
    never _ (not-short _ c.args.bytes.now c.pieces.count (sym left ∙ ended) c.pieces-test.true)

pub returns-then-ne-clause-same : goal.returns-then-ne-clause-same
returns-then-ne-clause-same c =
    let e = c.take_piece-piece.ensures in
    let piece = c.take_piece-piece.result.now in
    let count = c.pieces.count in
    let left = unread-moved c.args.self.now c.pieces.self count c.pieces.invariant.after in
    let other = differs piece _ c.if-ne.ensures in
    never _ (not-piece _ c.args.bytes.now piece count (length piece) (omega arith) (e.bytes ∙ ap (λ (t : List ℕ). take (length piece) t) left) (λ same. other (same ∙ sym (span count (length piece) c.args.bytes.now))))

pub pieces-preserved : goal.pieces-preserved
pieces-preserved c =
    let e = c.take_piece-piece.ensures in
    let piece = c.take_piece-piece.result.now in
    let count = c.pieces.count in
    let left = unread-moved c.args.self.now c.pieces.self count c.pieces.invariant.after in
    let same = agrees piece _ c.if-ne.ensures ∙ span count (length piece) c.args.bytes.now in
    record {
      within = omega arith;
      same = same-more _ _ count (length piece) c.pieces.invariant.same (ap (λ (t : List ℕ). take (length piece) t) (sym left) ∙ sym e.bytes ∙ same);
      after = moved-moved c.args.self.now c.pieces.self _ count (length piece) _ c.pieces.invariant.after e.after refl;
    }
