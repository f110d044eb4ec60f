use Rattle.std.proofs.Common.{sym, ◌∙◌, rules, tests}
use Rattle.std.specs.String.{string_bytes}
use Rattle.std.proofs.lemmas.Iterator.{YieldsList-from_slice}
use Rattle.std.proofs.lemmas.Iterator.Search.{all_from_yields_List}
use Rattle.std.proofs.lemmas.List.Folds.{list_all-map}
use Rattle.zs_session.specs.Words.{is_setting}
use Rattle.zs_session.proofs.words.are_named.Goals as goal

pub returns : goal.returns
returns c =
    all_from_yields_List (λ word. is_setting (string_bytes word)) _ _ c.all.result c.all.ensures.ran (YieldsList-from_slice c.args.words.now cc) (λ x b q k. search (rules, tests))
    ∙ sym (list_all-map is_setting string_bytes c.args.words.now)
