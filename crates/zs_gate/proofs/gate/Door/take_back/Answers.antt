use Rattle.std.proofs.Common.{◌≡◌, sym, ap, ◌∙◌}
use Rattle.zs_gate.proofs.gate.Door.take_back.Goals as goal

pub take_pass-requires-clause-pass : goal.take_pass-requires-clause-pass
take_pass-requires-clause-pass c =
    let gate : c.pass.inside.post.gate ≡ c.self.inside.post.gate = ap (λ p. p.gate) c.pass.view_is ∙ c.requires ∙ sym (ap (λ d. d.gate) c.self.view_is) in
    (_, λ i. record { gate = gate i; knows = c.pass.invariant i })
