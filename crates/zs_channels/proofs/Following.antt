-- What is heard of several things, one after the other.
use Rattle.std.proofs.Common.{◌≡◌, ℕ, ◌+◌, ◌<◌, List, [], ◌∷◌, ◌++◌, length, take, get_or, sym, refl, ap, ◌∙◌, append_assoc}
use Rattle.std.proofs.lemmas.List.{append-nil, take_more}
use Rattle.zs_events.specs.declared.turn.Effect.{Effect}
use Rattle.zs_events.specs.declared.turn.HandOver.{HandOver}
use Rattle.zs_channels.specs.Told.{ChannelNews}
use Rattle.zs_channels.specs.Table.{Table, behind, behind_all}
use Rattle.zs_channels.specs.Heard.{news_of_effect, news_of_effects}

pub behind_all-append : {T : Type 0} (news heard : List (ChannelNews T)) (t : Table T) → behind_all (news ++ heard) t ≡ behind_all news (behind_all heard t)
behind_all-append [] heard t = refl
behind_all-append (one ∷ news) heard t = ap (behind one) (behind_all-append news heard t)

-- of one effect more
pub news-push : (fx : List Effect) (f : Effect) → news_of_effects (fx ++ f ∷ []) ≡ news_of_effect f ++ news_of_effects fx
news-push [] f = sym (append-nil (news_of_effect f))
news-push (g ∷ fx) f = ap (λ news. news ++ news_of_effect g) (news-push fx f) ∙ append_assoc (news_of_effect f) (news_of_effects fx) (news_of_effect g)

-- the table behind the effects up to one, and behind that one
pub heard_more : (fx : List Effect) (i : ℕ) (f : Effect) (old t new : Table HandOver) → i < length fx → f ≡ get_or fx i f → t ≡ behind_all (news_of_effects (take i fx)) old → new ≡ behind_all (news_of_effect f) t
    → new ≡ behind_all (news_of_effects (take (i + 1) fx)) old
heard_more fx i f old t new within here before is =
    let more : news_of_effects (take (i + 1) fx) ≡ news_of_effect f ++ news_of_effects (take i fx) =
    ap news_of_effects (take_more fx i f within) ∙ (news-push (take i fx) (get_or fx i f) ∙ ap (λ (g : Effect). news_of_effect g ++ news_of_effects (take i fx)) (sym here)) in
    is ∙ (ap (behind_all (news_of_effect f)) before ∙ (sym (behind_all-append (news_of_effect f) (news_of_effects (take i fx)) old) ∙ ap (λ news. behind_all news old) (sym more)))
