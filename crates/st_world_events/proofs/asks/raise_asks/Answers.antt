use Rattle.std.proofs.Common.{length, refl}
use Rattle.std.proofs.lemmas.Option.{slice_get_read}
use Rattle.st_world_events.proofs.asks.raise_asks.Goals as goal

pub ask-requires : goal.ask-requires
ask-requires c =
    c.requires.asks c.index_mut-site.result.now
    (slice_get_read c.args.clients.now.items (length c.args.clients.now.items) c.args.i c.index_mut-site.result.now refl c.requires.there c.index_mut-site.ensures.value)
