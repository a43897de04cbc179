-- Every write of a page that is submitted carries the content that the log gives at that line.
use Rattle.std.specs.Prelude.{◌≡◌, List, []}
use Rattle.st_base.specs.declared.disk.Command.{Command}
use Rattle.st_base.specs.declared.disk.Command.TheVariants as commands
use Rattle.st_rules.specs.declared.log.LogEntry.{LogEntry}
use Rattle.st_rules.specs.declared.observation.Observation.{Observation}
use Rattle.st_rules.specs.declared.observation.Observation.TheVariants as seen
use Rattle.st_rules.specs.FlatLog.{content}
use Rattle.st_rules.specs.Safety.{AtEachOf, Promise}

-- a write carries the content of its page; a read carries nothing
abbrev pub CarriesContent : List LogEntry → Command → Type 0
CarriesContent es (commands.Write at tag bytes) = bytes ≡ content es tag.file tag.page
CarriesContent es (commands.Read at) = Unit {0}

-- at each line that submits a command
abbrev pub IsCarried : List LogEntry → Observation → Type 0
IsCarried es (seen.Submitted k c number what) = CarriesContent es what
IsCarried es o = Unit {0}

-- Writes carry the content.
abbrev pub WritesCarryTheContent : Promise
WritesCarryTheContent past x = AtEachOf x IsCarried
