use Rattle.st_stable_file.proofs.Once.{opened_exactly}
use Rattle.st_stable_file.proofs.area.open_area.Goals as goal

pub returns-clause-exact : goal.returns-clause-exact
returns-clause-exact c = λ state h.
    opened_exactly (record { server = c.args.server; servers = c.args.servers; disks = c.args.disks; blocks = c.args.blocks }) c.args.area.now c.read_area.result c.requires.small
    c.read_area.ensures.ok c.read_area.ensures.err state h
