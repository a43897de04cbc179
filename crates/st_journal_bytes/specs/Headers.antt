-- The header of a journal's file: the server whose journal it is, the shape of its world, its settings, and how many bytes an area has.
use Rattle.std.specs.Prelude.{◌≡◌, ◌≢◌, ◌<◌, ◌^◌, ℕ, List, [], ◌∷◌, ◌++◌}
use Rattle.st_base.specs.declared.config.Config.{Config}
use Rattle.st_journal_file.specs.Layout.{part, word32}
use Rattle.st_journal_bytes.specs.Plain.{plain}
use Rattle.st_journal_bytes.specs.Words.{word16, word64}
use Rattle.st_journal_bytes.specs.declared.header.Header.{Header}
use Rattle.st_journal_bytes.specs.declared.header.HeaderFault.{HeaderFault}
use Rattle.st_journal_bytes.specs.declared.header.HeaderFault.TheVariants.{NotJournal, Version, Damaged, OtherServer, OtherShape, OtherSettings}
use Rattle.st_journal_bytes.specs.declared.header.Identity.{Identity}

-- the text TANKJRNL
abbrev pub MAGIC : List ℕ
MAGIC = 84 ∷ 65 ∷ 78 ∷ 75 ∷ 74 ∷ 82 ∷ 78 ∷ 76 ∷ []

-- the version of this layout
abbrev pub VERSION : ℕ
VERSION = 1

-- the settings: the ages of a lease first
unfoldable pub settings : Config → List ℕ
settings c =
    word64 c.lease ++
    (word64 c.renew ++
    (word64 c.quiesce ++ (word64 c.flush ++ (word64 c.demand ++ (word64 c.retry ++ (word64 c.num ++ (word64 c.den ++ word64 c.grain)))))))

unfoldable pub identity : Identity → List ℕ
identity i = word16 i.server.0 ++ (word16 i.servers ++ (word16 i.disks ++ (word32 i.blocks ++ settings i.settings)))

unfoldable pub body : Header → List ℕ
body h = word32 h.area ++ identity h.identity

-- the text, the version, and the rest as a part
unfoldable pub header : Header → List ℕ
header h = MAGIC ++ (word32 VERSION ++ part plain (body h))

-- Each number of a header has its width: so no two headers have the same bytes.

pub record SettingsFit (c : Config) : Type 0 where
  pub lease : c.lease < 2 ^ 64
  pub renew : c.renew < 2 ^ 64
  pub quiesce : c.quiesce < 2 ^ 64
  pub flush : c.flush < 2 ^ 64
  pub demand : c.demand < 2 ^ 64
  pub retry : c.retry < 2 ^ 64
  pub num : c.num < 2 ^ 64
  pub den : c.den < 2 ^ 64
  pub grain : c.grain < 2 ^ 64

pub record IdentityFits (i : Identity) : Type 0 where
  pub server : i.server.0 < 2 ^ 16
  pub servers : i.servers < 2 ^ 16
  pub disks : i.disks < 2 ^ 16
  pub blocks : i.blocks < 2 ^ 32
  pub settings : SettingsFit i.settings

pub record HeaderFits (h : Header) : Type 0 where
  pub area : h.area < 2 ^ 32
  pub identity : IdentityFits h.identity

-- the bytes begin with this header
pub record IsHeaded (bytes : List ℕ) (h : Header) : Type 0 where
  pub fits : HeaderFits h
  pub rest : List ℕ
  pub parts : bytes ≡ header h ++ rest

-- they begin with the text and this version
pub record HasVersion (bytes : List ℕ) (version : ℕ) : Type 0 where
  pub small : version < 2 ^ 32
  pub rest : List ℕ
  pub parts : bytes ≡ MAGIC ++ (word32 version ++ rest)

-- why no header is read
abbrev pub IsNoHeader : List ℕ → HeaderFault → Type 0
IsNoHeader bytes NotJournal = (rest : List ℕ) → bytes ≡ MAGIC ++ rest → ⊥
IsNoHeader bytes (Version n) = HasVersion bytes n × (n ≢ VERSION)
IsNoHeader bytes Damaged = (h : Header) → IsHeaded bytes h → ⊥
IsNoHeader bytes f = ⊥

-- the same shape
pub record HasShape (a b : Identity) : Type 0 where
  pub servers : a.servers ≡ b.servers
  pub disks : a.disks ≡ b.disks
  pub blocks : a.blocks ≡ b.blocks

-- why a journal isn't the one that is wanted, in the order of the checks
abbrev pub IsOther : Identity → Identity → HeaderFault → Type 0
IsOther found wanted (OtherServer n) = (n ≡ found.server) × (found.server ≢ wanted.server)
IsOther found wanted OtherShape = (found.server ≡ wanted.server) × (HasShape found wanted → ⊥)
IsOther found wanted OtherSettings = (found.server ≡ wanted.server) × HasShape found wanted × (found.settings ≢ wanted.settings)
IsOther found wanted f = ⊥
