-- What the structs stand for in which the code names a question, and what ends gets.
use Rattle.zs_events.specs.Kinds.{Question}
use Rattle.zs_making.specs.declared.questions.Question.{Question as named_question}
use Rattle.zs_query.specs.Asked.{News, QuerierEnds, CancelledBy}
use Rattle.zs_making.specs.declared.ended_gets.Ender.{Ender}
use Rattle.zs_making.specs.declared.ended_gets.Ender.TheVariants.{Querier as by_querier, CancellationToken as by_cancellation_token}

-- the question that the code names
abbrev pub question_by : named_question → Question
question_by q = record { settings = q.settings; inquiry = q.inquiry.now; querier = q.querier }

-- the news that the code names
abbrev pub ender_news : Ender → News
ender_news (by_querier id) = QuerierEnds id
ender_news (by_cancellation_token token) = CancelledBy token
