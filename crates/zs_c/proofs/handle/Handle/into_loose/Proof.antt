-- `into_loose` hands over what the handle owns. Assumes `Logic`.
use Rattle.std.proofs.Common.{◌≡◌, List, [], ◌∷◌, ◌++◌, refl, sym, ap, ◌∙◌, lit<, Option, Some, None, IsSome}
use mir.Syntax.{Fn}
use mir.Val.{Val, vptr, vnull}
use mir.Raw.{raw as bare}
use base.Logic.{SProp, emp, never, fst∗}
use base.Fml.{ftrue}
use prog.Wp.{Env, WpFn}
use contract.Monad.{fact, fact_i}
use contract.Running.{tables}
use types.Logic.{sem}
use types.Kit.{‵, raw, ◌⊛◌, prop, ◌$◌, ◌∵◌, !, qed, by, move, keep, drop, use0, use1, split, rewrite, regoal, fsplit, fjoin}
use types.Part.{whole, sub, agg}
use types.Run.{stop, fld, lit, of_opd, no_more, and_then, returns, enter}
use types.ByLocal.{alloc_all, pass_all, free_all, look_at, get, get_in, sets, env}
use denote.Exit.{rest, yes, no}
use denote.RattleType.{RattleType, owns}
use denote.RawPtr.{Ptr, block_ptr, null_ptr, ptr_val, in_a_block}
use denote.Memory.{lone}
use denote.Param.{layout}
use denote.Signature.{types_at}
use denote.Steps.{nothing, heard}
use denote.Triple.Entry.{alive}
use denote.Triple.Walked.{Stays, stay_dropped, walk_of, Goes-dropped}
use Rattle.std.proofs.alloc.Calls.{Goes-blank}
use Rattle.std.proofs.cell.Inside.{Good, one}
use Rattle.std.proofs.ResultValues.{and_tt}
use Rattle.std.proofs.raw_atomic.Walks.{proved_at, leaves}
use Rattle.std.specs.contracts.impls.GlobalAllocator.TheImpl.{ghosts}
use Rattle.std.proofs.alloc.Global.TheLaws as heap_laws
use Rattle.zs_line_session.specs.contracts.session.LineSession as session
use Rattle.zs_c.proofs.Values.{both, loose_out, loose_in, loose_good}
use Rattle.zs_c.proofs.Handles.{Z, Handle, ptr_good, slot_at, handle_out, by_some}
use Rattle.std.specs.Box.Ownership.{box_owns}
use Rattle.zs_c.specs.Held.{held}
use Rattle.zs_c.specs.contracts.handle.Handle.into_loose.{ended, clauses}
use Rattle.zs_c.specs.contracts.handle.Handle.into_loose.Key.{name as #self}
use Rattle.zs_c.proofs.handle.Handle.into_loose.Statement.{statement}
use Rattle.zs_c.proofs.handle.Handle.into_loose.Code as compiled

pub into_loose_spec : {M : Type 1} → statement M
into_loose_spec 𝓤 𝓛 𝓜 𝓡 wired =
    let H = 𝓛.H in
    let En₀ = ended in
    let c = clauses 𝓛 𝓜.mem 𝓡.returns in
    let fn : Fn = compiled.function in
    let stays : Stays En₀.signature.params En₀.kept = (stay_dropped (slot_at 0 En₀.signature.params) En₀.kept.0, tt) in
    let C = (tables 𝓤 H 𝓜 𝓡 𝓡.env).C in
    let Λ = (tables 𝓤 H 𝓜 𝓡 𝓡.env).Λ in
    let R : RattleType = session.the_row in
    proved_at 𝓛 En₀ stays c 𝓜 𝓡 (Goes-blank 𝓛 0 (slot_at 0 En₀.signature.params) En₀.kept.0 (λ κs x f. tt), tt) #self fn (compiled.unfolded 𝓤 H 𝓜 𝓡 wired) (λ z are.
    let Post : Val → SProp 𝓤 = (walk_of 𝓛 En₀ stays c).post z in
    let x = z.0.3.0 in
    let a = x.alloc in
    qed 𝓛 ((raw (alive 𝓛 En₀.signature z.0.0 z.0.1) ⊛ ‵ (owns (types_at En₀.signature.params z.0.0) z.0.3 z.0.4)) ∷ raw (fact 𝓤 (IsSome x.value)) ∷ []) ∵ move ! (1 ∷ []) $ heard ! (IsSome x.value) (λ here. split ! $ move ! (1 ∷ []) $
    fsplit ! $ move ! (1 ∷ []) $ drop ! $ handle_out ! x z.0.4.0 (λ h told fits. by_some x.value here (λ y is.
    rewrite ! 0 (λ (v : Option R.Denot). ‵ (held a x.at v)) is refl $
    in_a_block ! x.at (λ p. box_owns (ghosts.dealloc_token a) R p y) (fst∗ 𝓤 (never 𝓤) (sem 𝓛 (ghosts.dealloc_token a (bare (lone R.mir)) null_ptr))) (λ b o at.
    let typed = loose_good R Z heap_laws.the_row_laws ghosts b o h fits in let w : Val = both (vptr b o) h in
    regoal ! (λ (us : List Val). prop (WpFn 𝓤 H C Λ fn us Post)) (λ i. (told ∙ ap (λ (p : Ptr). both (ptr_val p) h ∷ []) at) i ++ []) refl $
    enter ! C Λ fn (w ∷ []) Post $ alloc_all ! (λ l. pass_all ! refl (typed, tt) $
    sets ! (of_opd ! (get_in ! (fld ! refl (stop !)) (sub ! 0 refl (whole !)))) refl (tt, tt) $
    sets ! (of_opd ! (get_in ! (fld ! refl (stop !)) (sub ! 1 refl (whole !)))) refl fits $
    sets ! (of_opd ! (get ! refl)) refl (tt, tt) $
    sets ! (agg ! (and_then ! (get ! refl) (and_then ! (get ! refl) (no_more !)))) refl typed $
    returns ! (look_at ! 0 refl) $ free_all ! refl $ loose_in R Z heap_laws.the_row_laws ghosts ! b o h a y $
    use0 𝓛 (raw (fact 𝓤 (Some y ≡ x.value))) (fact_i 𝓤 (Some y ≡ x.value) (emp 𝓤) (sym is)) $ nothing ! $ nothing ! $ fjoin ! $ move ! (3 ∷ 0 ∷ 2 ∷ 1 ∷ []) $
    by ! (leaves 𝓛 En₀ stays c z w (record { at = block_ptr b o; alloc = a; value = y }) (_, tt) (tt, tt))))))))
