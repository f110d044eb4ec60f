use Rattle.std.proofs.Common.{sym, refl}
use Rattle.zs_session.proofs.words.given.Goals as goal

pub returns-in_err-key_start : goal.returns-in_err-key_start
returns-in_err-key_start c =
    let zid = rw c.default_numbers-default.ensures at c.in_ok-zid.ensures in
    let tag = rw c.default_numbers-default.ensures at c.in_ok-tag.ensures.given in
    let entity_start = simp (c.from.ensures, c.default_numbers-default.ensures) at c.in_ok-entity_start.ensures.given in
    let key_start = simp (c.from-2.ensures, c.default_numbers-default.ensures) at c.in_err-key_start.ensures.given in
    simp (c.from_residual-in_err-key_start.ensures, sym zid, sym tag, sym entity_start, sym key_start) refl

pub returns-in_err-query_start : goal.returns-in_err-query_start
returns-in_err-query_start c =
    let zid = rw c.default_numbers-default.ensures at c.in_ok-zid.ensures in
    let tag = rw c.default_numbers-default.ensures at c.in_ok-tag.ensures.given in
    let entity_start = simp (c.from.ensures, c.default_numbers-default.ensures) at c.in_ok-entity_start.ensures.given in
    let key_start = simp (c.from-2.ensures, c.default_numbers-default.ensures) at c.in_ok-key_start.ensures.given in
    let query_start = simp (c.from-3.ensures, c.default_numbers-default.ensures) at c.in_err-query_start.ensures.given in
    simp (c.from_residual-in_err-query_start.ensures, sym zid, sym tag, sym entity_start, sym key_start, sym query_start) refl

pub returns-in_err-default_timeout : goal.returns-in_err-default_timeout
returns-in_err-default_timeout c =
    let zid = rw c.default_numbers-default.ensures at c.in_ok-zid.ensures in
    let tag = rw c.default_numbers-default.ensures at c.in_ok-tag.ensures.given in
    let entity_start = simp (c.from.ensures, c.default_numbers-default.ensures) at c.in_ok-entity_start.ensures.given in
    let key_start = simp (c.from-2.ensures, c.default_numbers-default.ensures) at c.in_ok-key_start.ensures.given in
    let query_start = simp (c.from-3.ensures, c.default_numbers-default.ensures) at c.in_ok-query_start.ensures.given in
    let default_timeout = rw c.default_numbers-default.ensures at c.in_err-default_timeout.ensures.given in
    simp (c.from_residual-in_err-default_timeout.ensures, sym zid, sym tag, sym entity_start, sym key_start, sym query_start, sym default_timeout) refl

pub returns-in_err-line_max : goal.returns-in_err-line_max
returns-in_err-line_max c =
    let zid = rw c.default_numbers-default.ensures at c.in_ok-zid.ensures in
    let tag = rw c.default_numbers-default.ensures at c.in_ok-tag.ensures.given in
    let entity_start = simp (c.from.ensures, c.default_numbers-default.ensures) at c.in_ok-entity_start.ensures.given in
    let key_start = simp (c.from-2.ensures, c.default_numbers-default.ensures) at c.in_ok-key_start.ensures.given in
    let query_start = simp (c.from-3.ensures, c.default_numbers-default.ensures) at c.in_ok-query_start.ensures.given in
    let default_timeout = rw c.default_numbers-default.ensures at c.in_ok-default_timeout.ensures.given in
    let line_max = simp (c.from-4.ensures, c.default_numbers-default.ensures) at c.in_err-line_max.ensures.given in
    simp (c.from_residual-in_err-line_max.ensures, sym zid, sym tag, sym entity_start, sym key_start, sym query_start, sym default_timeout, sym line_max) refl

pub returns-in_err-turns : goal.returns-in_err-turns
returns-in_err-turns c =
    let zid = rw c.default_numbers-default.ensures at c.in_ok-zid.ensures in
    let tag = rw c.default_numbers-default.ensures at c.in_ok-tag.ensures.given in
    let entity_start = simp (c.from.ensures, c.default_numbers-default.ensures) at c.in_ok-entity_start.ensures.given in
    let key_start = simp (c.from-2.ensures, c.default_numbers-default.ensures) at c.in_ok-key_start.ensures.given in
    let query_start = simp (c.from-3.ensures, c.default_numbers-default.ensures) at c.in_ok-query_start.ensures.given in
    let default_timeout = rw c.default_numbers-default.ensures at c.in_ok-default_timeout.ensures.given in
    let line_max = simp (c.from-4.ensures, c.default_numbers-default.ensures) at c.in_ok-line_max.ensures.given in
    let turns = rw c.default_numbers-default.ensures at c.in_err-turns.ensures.given in
    simp (c.from_residual-in_err-turns.ensures, sym zid, sym tag, sym entity_start, sym key_start, sym query_start, sym default_timeout, sym line_max, sym turns) refl

pub returns : goal.returns
returns c =
    let zid = rw c.default_numbers-default.ensures at c.in_ok-zid.ensures in
    let tag = rw c.default_numbers-default.ensures at c.in_ok-tag.ensures.given in
    let entity_start = simp (c.from.ensures, c.default_numbers-default.ensures) at c.in_ok-entity_start.ensures.given in
    let key_start = simp (c.from-2.ensures, c.default_numbers-default.ensures) at c.in_ok-key_start.ensures.given in
    let query_start = simp (c.from-3.ensures, c.default_numbers-default.ensures) at c.in_ok-query_start.ensures.given in
    let default_timeout = rw c.default_numbers-default.ensures at c.in_ok-default_timeout.ensures.given in
    let line_max = simp (c.from-4.ensures, c.default_numbers-default.ensures) at c.in_ok-line_max.ensures.given in
    let turns = rw c.default_numbers-default.ensures at c.in_ok-turns.ensures.given in
    rw (sym zid, sym tag, sym entity_start, sym key_start, sym query_start, sym default_timeout, sym line_max, sym turns) (simp (c.new.ensures, c.new-2.ensures) refl)
