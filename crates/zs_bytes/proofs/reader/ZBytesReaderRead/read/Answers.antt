use Rattle.zs_bytes.proofs.Pieces.{read-consumes}
use Rattle.zs_bytes.proofs.reader.ZBytesReaderRead.read.Goals as goal

pub returns-clause-bytes : goal.returns-clause-bytes
returns-clause-bytes c =
    let e = c.read.ensures in
    read-consumes c.args.self.now c.read.new.self c.read.new.into c.read.result e.count e.bytes e.after
