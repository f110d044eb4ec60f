use Rattle.zs_core.proofs.state.SessionState.preview.Goals as goal

pub returns : goal.returns
returns c = rw c.into_parts-turn.ensures.turn c.in_ok-made.ensures.previews
