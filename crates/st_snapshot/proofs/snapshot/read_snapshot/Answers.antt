use Rattle.st_snapshot.proofs.Read.{read_exactly}
use Rattle.st_snapshot.proofs.snapshot.read_snapshot.Goals as goal

pub returns-clause-exact : goal.returns-clause-exact
returns-clause-exact c = λ t fits can shape is.
    read_exactly (record { server = c.args.server; servers = c.args.servers; disks = c.args.disks; blocks = c.args.blocks }) c.args.bytes.now c.read_restored.result
    c.read_restored.ensures.bytes c.read_restored.ensures.fits c.read_restored.ensures.shape c.read_restored.ensures.err t fits can shape is
