-- Which answers have a number.
use Rattle.zs_core.specs.Laws.{AnswersAreNumbered}
use Rattle.zs_session_cell.specs.Core.{turn_at}
use Rattle.zs_held.specs.Numbers.{numbered_at, NumbersAreTold}

-- by the core's law
pub numbers_told : AnswersAreNumbered → NumbersAreTold
unfolding turn_at numbered_at
numbers_told law s h e number is = law s h e number is
