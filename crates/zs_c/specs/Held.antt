-- What a handle owns.
use base.Fml.{Fml, ftrue}
use denote.RawPtr.{Ptr}
use Rattle.std.specs.declared.option.Option.{Option}
use Rattle.std.specs.declared.option.Option.TheVariants.{None, Some}
use Rattle.std.specs.declared.alloc.Global.{Global}
use Rattle.std.specs.contracts.impls.GlobalAllocator.TheImpl.{ghosts}
use Rattle.std.specs.Box.Ownership.{box_owns}
use Rattle.zs_line_session.specs.contracts.session.LineSession.{the_row}

-- the block at p with the session, and the right to free it, if there is one
abbrev pub held : Global → Ptr → Option the_row.Denot → Fml
held a p (Some x) = box_owns (ghosts.dealloc_token a) the_row p x
held a p None = ftrue
