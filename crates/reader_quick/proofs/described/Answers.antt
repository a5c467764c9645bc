use Rattle.reader_quick.proofs.Laws.{described_yes}
use Rattle.reader_quick.proofs.described.Goals as goal

pub returns-clause-read : goal.returns-clause-read
returns-clause-read c = described_yes _ _ _ _ c.in_ok-i.ensures.read c.flag.ensures.read
