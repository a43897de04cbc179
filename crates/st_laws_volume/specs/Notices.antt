-- What open asks notice: that their file isn't there, that their server is full, and that another file has the name to be removed.
use Rattle.std.specs.Prelude.{◌≡◌}
use Rattle.st_rules.specs.Safety.{Promise}
use Rattle.st_laws_volume.specs.Options.{OnSome}
use Rattle.st_laws_volume.specs.Witness.{led_by, led_to}
use Rattle.st_volume.specs.Volume.{Volume, notice}

-- Asks have noticed: after every event, if the volume has taken the steps of all events so far, they have noticed what there is now to notice.
abbrev pub HasNoticed : Volume → Type 0
HasNoticed v = notice v ≡ v

abbrev pub AsksHaveNoticed : Promise
AsksHaveNoticed past x = OnSome HasNoticed (led_by (led_to past x) x).volume
