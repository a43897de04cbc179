-- The bytes of a header are those of one header.
use Rattle.std.proofs.Common.{◌≡◌, ℕ, ◌^◌, ◌<◌, List, [], ◌++◌, refl, sym, ◌∙◌, append-nil, arith}
use Rattle.std.proofs.lemmas.List.{append_cancel_left}
use Rattle.st_base.specs.declared.config.Config.{Config}
use Rattle.st_journal_file.specs.Layout.{part, word32}
use Rattle.st_journal_bytes.specs.Headers.{MAGIC, VERSION, HeaderFits, IdentityFits, SettingsFit, body, header, identity, settings}
use Rattle.st_journal_bytes.specs.Plain.{plain}
use Rattle.st_journal_bytes.specs.Words.{word64}
use Rattle.st_journal_bytes.specs.declared.header.Header.{Header}
use Rattle.st_journal_bytes.specs.declared.header.Identity.{Identity}
use Rattle.st_journal_bytes.proofs.Headers.{header_is, length-body}
use Rattle.st_journal_bytes.proofs.Numbers.{once_16, once_32, once_64}
use Rattle.st_journal_bytes.proofs.Scans.{part_once}

last_once : (m n : ℕ) → m < 2 ^ 64 → n < 2 ^ 64 → word64 m ≡ word64 n → m ≡ n
last_once m n small less e = (once_64 m n [] [] small less (append-nil (word64 m) ∙ (e ∙ sym (append-nil (word64 n))))).0

settings_once : (c d : Config) → SettingsFit c → SettingsFit d → settings c ≡ settings d → c ≡ d
unfolding settings
settings_once c d s t e =
    let lease = once_64 c.lease d.lease _ _ s.lease t.lease e in
    let renew = once_64 c.renew d.renew _ _ s.renew t.renew lease.1 in
    let quiesce = once_64 c.quiesce d.quiesce _ _ s.quiesce t.quiesce renew.1 in
    let flush = once_64 c.flush d.flush _ _ s.flush t.flush quiesce.1 in
    let demand = once_64 c.demand d.demand _ _ s.demand t.demand flush.1 in
    let retry = once_64 c.retry d.retry _ _ s.retry t.retry demand.1 in
    let num = once_64 c.num d.num _ _ s.num t.num retry.1 in
    let den = once_64 c.den d.den _ _ s.den t.den num.1 in
    let grain = last_once c.grain d.grain s.grain t.grain den.1 in
    rw (lease.0, renew.0, quiesce.0, flush.0, demand.0, retry.0, num.0, den.0, grain) refl

identity_once : (i j : Identity) → IdentityFits i → IdentityFits j → identity i ≡ identity j → i ≡ j
unfolding identity
identity_once i j s t e =
    let server = once_16 i.server.0 j.server.0 _ _ s.server t.server e in
    let servers = once_16 i.servers j.servers _ _ s.servers t.servers server.1 in
    let disks = once_16 i.disks j.disks _ _ s.disks t.disks servers.1 in
    let blocks = once_32 i.blocks j.blocks _ _ s.blocks t.blocks disks.1 in
    let rest = settings_once i.settings j.settings s.settings t.settings blocks.1 in
    rw (server.0, servers.0, disks.0, blocks.0, rest) refl

body_once : (h g : Header) → HeaderFits h → HeaderFits g → body h ≡ body g → h ≡ g
unfolding body
body_once h g s t e =
    let area = once_32 h.area g.area _ _ s.area t.area e in
    let rest = identity_once h.identity g.identity s.identity t.identity area.1 in
    rw (area.0, rest) refl

pub header_once : (h g : Header) (r q : List ℕ) → HeaderFits h → HeaderFits g → header h ++ r ≡ header g ++ q → h ≡ g
header_once h g r q s t e =
    let whole : MAGIC ++ (word32 VERSION ++ (part plain (body h) ++ r)) ≡ MAGIC ++ (word32 VERSION ++ (part plain (body g) ++ q)) =
    sym (header_is h r) ∙ (e ∙ header_is g q) in
    let after = append_cancel_left (word32 VERSION) (part plain (body h) ++ r) (part plain (body g) ++ q) (append_cancel_left MAGIC _ _ whole) in
    body_once h g s t (part_once (body h) (body g) r q (omega (arith, length-body h)) (omega (arith, length-body g)) after).0
