use Rattle.std.proofs.Common.{◌≡◌, ◌+◌, ◌-◌, ◌≤◌, length, take, drop}
use Rattle.zs_bytes.specs.Reading.{unread}
use Rattle.zs_bytes.proofs.reader.ZBytesReader.read.Given as goal

abbrev pub invariant-pieces : goal.invariant-pieces
invariant-pieces l = record {
  within : l.count ≤ length l.fn.into;
  left : l.count ≤ length (unread l.fn.self);
  bytes : take l.count l.into ≡ take l.count (unread l.fn.self);
  kept : drop l.count l.into ≡ drop l.count l.fn.into;
  after : l.self ≡ record l.fn.self { position = l.fn.self.position + l.count };
}

abbrev pub decreases-pieces : goal.decreases-pieces
decreases-pieces l = length l.initial.into - l.count
