use Rattle.st_lemmas.proofs.Words
use Words.{sym, ◌∙◌}
use Rattle.st_snap.specs.Versions.{has_version}
use Rattle.st_snap.proofs.Latest.{latest_some}
use Rattle.st_snap.proofs.volume.Volume.page_before.Goals as goal

pub get-requires : goal.get-requires
get-requires c = (latest_some (has_version c.self.inside.versions) c.args.file c.args.page.0 c.args.take c.in_ok-takes.takes (sym c.latest.ensures ∙ c.in_ok-takes.was)).there
