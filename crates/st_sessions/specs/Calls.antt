-- What calls on sessions leave.
use Rattle.std.specs.Prelude.{if◌then◌else◌}
use Rattle.st_base.specs.declared.ids.ClientId.{ClientId}
use Rattle.st_base.specs.declared.ids.Life.{Life}
use Rattle.st_rules.specs.Sessions.{Sessions, Greeted, greeted, begin_session}
use Rattle.st_sessions.specs.declared.greeting.Judgement.{Judgement}

-- the sessions and the answer after a greeting was judged
abbrev pub judged : Judgement → Sessions → ClientId → Life → Greeted
judged j t c life = if j.begins then begin_session j.hello c life t else greeted j.hello t
