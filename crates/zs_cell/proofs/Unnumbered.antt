-- Events that are answered no number.
use Rattle.std.proofs.Common.{◌≡◌, false, refl}
use Rattle.zs_wire.specs.declared.message.Message.{Message}
use Rattle.zs_wire.specs.declared.message.Message.TheVariants.{DeclareKeyExpr, UndeclareKeyExpr, DeclareSubscriber, UndeclareSubscriber, DeclareQueryable, UndeclareQueryable, DeclareToken, UndeclareToken, DeclareFinal, Interest, Push, Request, Response, ResponseFinal, Close}
use Rattle.zs_events.specs.declared.event.Event.TheVariants.{Net}
use Rattle.zs_held.specs.Numbers.{numbered_at}

-- a message from the network
pub no-number : (message : Message) → numbered_at (Net message) ≡ false
unfolding numbered_at
no-number (DeclareKeyExpr number wire) = refl
no-number (UndeclareKeyExpr number) = refl
no-number (DeclareSubscriber id wire) = refl
no-number (UndeclareSubscriber id) = refl
no-number (DeclareQueryable id complete wire) = refl
no-number (UndeclareQueryable id) = refl
no-number (DeclareToken id wire interest) = refl
no-number (UndeclareToken id wire interest) = refl
no-number (DeclareFinal interest) = refl
no-number (Interest id mode what wire) = refl
no-number (Push push) = refl
no-number (Request request) = refl
no-number (Response response) = refl
no-number (ResponseFinal rid) = refl
no-number Close = refl
