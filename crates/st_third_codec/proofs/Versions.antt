-- No message of one version is read in another.
use Rattle.std.proofs.Common.{◌≡◌, ℕ, false, List, ◌∷◌, ◌++◌, Err, refl, ap, ◌∙◌}
use Rattle.std.specs.Prelude.{◌==◌}
use Rattle.st_messages.specs.declared.kind.Kind.{Kind}
use Rattle.st_messages.specs.declared.kind.Kind.TheVariants as kinds
use Rattle.st_messages.specs.declared.message.Header.{Header}
use Rattle.st_messages.specs.declared.message.Message.{Message}
use Rattle.st_messages.specs.Kinds.{kind_of_body}
use Rattle.st_codec.specs.declared.refusal.CodecRefusal.TheVariants as refusals
use Rattle.st_codec.specs.KindBytes.{version_of, number_of}
use Rattle.st_codec.specs.Decoder as plain
use Rattle.st_codec.specs.Spelling.{kind, header, body}
use Rattle.st_codec.specs.Spelling as plain_spelling
use Rattle.st_third.specs.declared.message.ThirdMessage.{ThirdMessage}
use Rattle.st_third.specs.Messages.{front, spelling}
use Rattle.st_third_codec.specs.Decoder.{version_at, kind_at, front_at, message_at, decoded}
use Rattle.st_third_codec.proofs.ExactBodies.{tail, kind_in, header_in}
use Rattle.st_third_codec.proofs.ExactThird.{spelled}

not_first : (rest : List ℕ) → plain.decoded (3 ∷ rest) ≡ Err refusals.Version
unfolding plain.decoded plain.message_at plain.kind_at plain.version_at
not_first rest = refl

front_begins : (k : Kind) (h : Header) (rest : List ℕ) → plain.decoded (front k h ++ rest) ≡ Err refusals.Version
unfolding front
front_begins k h rest = not_first (number_of k ∷ (header h ++ rest))

pub third_is_refused : (m : ThirdMessage) → plain.decoded (spelling m) ≡ Err refusals.Version
third_is_refused m = ap plain.decoded (spelled m) ∙ front_begins (kind_in m) (header_in m) (tail m)

not_third : (version : ℕ) (rest : List ℕ) → (version == 3) ≡ false → decoded (version ∷ rest) ≡ Err refusals.Version
unfolding decoded message_at front_at kind_at version_at
not_third version rest e = rw e refl

other_version : (k : Kind) → (version_of k == 3) ≡ false
other_version kinds.Patch = refl
other_version k = refl

pub first_is_refused : (m : Message) → decoded (plain_spelling.spelling m) ≡ Err refusals.Version
unfolding plain_spelling.spelling kind
first_is_refused m =
    let k = kind_of_body m.body in
    not_third (version_of k) (number_of k ∷ (header m.header ++ body m.body)) (other_version k)
