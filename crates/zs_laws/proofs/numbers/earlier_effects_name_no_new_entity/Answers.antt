use Rattle.zs_laws.proofs.NamingLaws.{earlier_effects_name_no_new_entity}
use Rattle.zs_laws.proofs.numbers.earlier_effects_name_no_new_entity.Goals as goal

pub returns : goal.returns
returns c = earlier_effects_name_no_new_entity
