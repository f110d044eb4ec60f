-- Views count what they were told.
use Rattle.std.proofs.Common.{◌≡◌, ℕ, ◌+◌, ◌-◌, Bool, true, false, cond, List, [], ◌∷◌, Option, Some, None, refl, sym, ap, ◌∙◌}
use Rattle.std.specs.Prelude.{bytes_eq}
use Rattle.zs_wire.specs.declared.sample_kind.SampleKind.{SampleKind}
use Rattle.zs_wire.specs.declared.sample_kind.SampleKind.TheVariants.{Put, Delete}
use Rattle.zs_sample.specs.declared.sample_fields.SampleFields.{SampleFields}
use Rattle.zs_members.specs.Names.{name_in}
use Rattle.zs_members.specs.Members.{Member, NamesAscend, AreThere, count_of, raised, lowered, changed, all_told}
use Rattle.zs_members.specs.Laws.{count_behind, count_remote, Counts, ViewsCount}
use Rattle.zs_members.proofs.Counting.{ascend_nothing, ascend_raised, ascend_lowered, there_raised, there_lowered, count_raised, count_lowered}

ascend_changed : (name : Option (List ℕ)) (kind : SampleKind) (ms : List Member) → NamesAscend ms → NamesAscend (changed name kind ms)
ascend_changed None kind ms ascend = ascend
ascend_changed (Some name) Put ms ascend = ascend_raised name ms ascend
ascend_changed (Some name) Delete ms ascend = ascend_lowered name ms ascend

there_changed : (name : Option (List ℕ)) (kind : SampleKind) (ms : List Member) → AreThere ms → AreThere (changed name kind ms)
there_changed None kind ms there = there
there_changed (Some name) Put ms there = there_raised name ms there
there_changed (Some name) Delete ms there = there_lowered name ms there

count_changed : (q : List ℕ) (name : Option (List ℕ)) (kind : SampleKind) (ms : List Member) → NamesAscend ms → count_of q (changed name kind ms) ≡ count_behind q name kind (count_of q ms)
count_changed q None kind ms ascend = refl
count_changed q (Some name) Put ms ascend = count_raised q name ms ascend
count_changed q (Some name) Delete ms ascend = count_lowered q name ms ascend

pub views_count : ViewsCount
views_count [] = record { ascend = ascend_nothing; there = tt; counts = λ name. refl }
views_count (sample ∷ earlier) =
    let so_far = views_count earlier in
    let name = name_in sample.key_expr.text in
    record {
      ascend = ascend_changed name sample.kind (all_told earlier) so_far.ascend;
      there = there_changed name sample.kind (all_told earlier) so_far.there;
      counts = λ q. count_changed q name sample.kind (all_told earlier) so_far.ascend ∙ ap (count_behind q name sample.kind) (so_far.counts q);
    }
