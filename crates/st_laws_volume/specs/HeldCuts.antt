-- A client that asks to cut a file has that file at its server.
use Rattle.std.specs.Prelude.{◌≡◌, ℕ, Bool, true, false}
use Rattle.st_base.specs.declared.ids.ClientId.{ClientId}
use Rattle.st_base.specs.declared.ids.ServerId.{ServerId}
use Rattle.st_messages.specs.declared.message.Body.{Body}
use Rattle.st_messages.specs.declared.message.Body.TheVariants as bodies
use Rattle.st_messages.specs.declared.message.Why.TheVariants as why
use Rattle.st_rules.specs.Safety.{Promise}
use Rattle.st_laws_names.specs.Keys.{ServedAt}

abbrev pub is_cut : Body → Bool
is_cut (bodies.Cut ino g from) = true
is_cut body = false

-- Cut files are held: in no event a server refuses a cut since its client doesn't hold the file.
abbrev pub CutFilesAreHeld : Promise
CutFilesAreHeld past x =
    (c : ClientId) (s : ServerId) (life epoch number ino n : ℕ)
    → (z : ServedAt x c s life epoch number (bodies.Nack why.NotHolder ino n))
    → is_cut z.sent.message.body ≡ false
