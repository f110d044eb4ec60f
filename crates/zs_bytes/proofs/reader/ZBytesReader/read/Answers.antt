use Rattle.std.proofs.Common.{arith, ℕ, List, length, take, drop, ap, ◌∙◌, refl, length-drop}
use Rattle.std.proofs.lemmas.List.{take_rest, length-take}
use Rattle.zs_bytes.proofs.Pieces.{take-written, drop-written, moved-moved, unread-moved}
use Rattle.zs_bytes.proofs.reader.ZBytesReader.read.Goals as goal

pub pieces-preserved : goal.pieces-preserved
pieces-preserved c =
    let i = c.pieces.invariant in
    let e = c.read_piece-more.ensures in
    let into = c.pieces.into in
    let count = c.pieces.count in
    let more = c.read_piece-more.result in
    let part = c.read_piece-more.new.into in
    let left = unread-moved c.args.self.now c.pieces.self count i.after in
    record {
      within = omega (arith, length-take {A = ℕ}, length-drop {A = ℕ});
      left = omega (arith, ap (λ (t : List ℕ). length t) left, length-drop {A = ℕ});
      bytes = take-written into part _ count more (omega arith) e.within i.bytes (e.bytes ∙ ap (λ (t : List ℕ). take more t) left);
      kept = drop-written into part c.args.into.now count more (omega arith) e.within i.kept (e.kept ∙ ap (λ (t : List ℕ). drop more t) (take_rest into count));
      after = moved-moved c.args.self.now c.pieces.self _ count more _ i.after e.after refl;
    }
