use Rattle.std.proofs.Common.{◌≡◌, ◌==◌, arith}
use Rattle.std.specs.List.{position_or_len}
use Rattle.zs_keys.proofs.Cut.{boundary-before, boundary-behind, chunks_of_cut, chunks_of_whole}
use Rattle.zs_keys.proofs.chunks.Chunks.next_chunk.Goals as goal

pub returns-then-place-text : goal.returns-then-place-text
returns-then-place-text c =
    let is : c.bytes_before_slash-place.result ≡ position_or_len (λ byte. byte == 0x2f) c.in_ok-text.text.now = cc in
    rw c.in_ok-text.was (chunks_of_whole _ (omega (arith, is)))

pub split_at-requires : goal.split_at-requires
split_at-requires c =
    let is : c.bytes_before_slash-place.result ≡ position_or_len (λ byte. byte == 0x2f) c.in_ok-text.text.now = cc in
    boundary-before _ _ is (omega arith)

pub split_at-requires-2 : goal.split_at-requires-2
split_at-requires-2 c =
    let is : c.bytes_before_slash-place.result ≡ position_or_len (λ byte. byte == 0x2f) c.in_ok-text.text.now = cc in
    boundary-behind _ _ is (omega arith) (rw c.as_bytes.ensures.value at c.as_bytes.ensures.utf8)

pub returns : goal.returns
returns c =
    let is : c.bytes_before_slash-place.result ≡ position_or_len (λ byte. byte == 0x2f) c.in_ok-text.text.now = cc in
    rw (c.in_ok-text.was, c.split_at.ensures.front, c.split_at-2.ensures.back) (chunks_of_cut _ _ is (omega arith))
