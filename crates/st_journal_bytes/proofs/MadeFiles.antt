-- A file that was made is read as what it is.
use Rattle.std.proofs.Common.{◌≡◌, ◌≢◌, ℕ, ◌+◌, ◌*◌, ◌≤◌, Bool, true, false, List, ◌∷◌, ◌++◌, length, get_or, inl, inr, refl, sym, ap, ◌∙◌, append_assoc, arith}
use Rattle.std.proofs.lemmas.List.{append_cancel_left, get_or-append_right, length-append}
use Rattle.st_journal_file.specs.Layout.{CLOSED, OPEN, part, switch_of, word32}
use Rattle.st_journal_bytes.specs.Files.{HasNoMark, IsMadeFile, IsRefused, IsShort}
use Rattle.st_journal_bytes.specs.Headers.{MAGIC, VERSION, IsHeaded, IsNoHeader, IsOther, body, header}
use Rattle.st_journal_bytes.specs.Plain.{plain}
use Rattle.st_journal_bytes.specs.declared.file.Current.{Current}
use Rattle.st_journal_bytes.specs.declared.file.FileFault.{FileFault}
use Rattle.st_journal_bytes.specs.declared.file.FileFault.TheVariants.{BadHeader, Damaged, Short}
use Rattle.st_journal_bytes.specs.declared.header.Header.{Header}
use Rattle.st_journal_bytes.specs.declared.header.HeaderFault.{HeaderFault}
use Rattle.st_journal_bytes.specs.declared.header.HeaderFault.TheVariants as faults
use Rattle.st_journal_bytes.specs.declared.header.Identity.{Identity}
use Rattle.st_journal_bytes.proofs.Headers.{header_is, length-header}
use Rattle.st_journal_bytes.proofs.Identities.{header_once}
use Rattle.st_journal_bytes.proofs.Numbers.{once_32}

-- what follows the header of a file that was made
abbrev after_header : (bytes : List ℕ) (wanted : Identity) (c : Current) → IsMadeFile bytes wanted c → List ℕ
after_header bytes wanted c m = (m.file.made ∷ (m.file.switch ∷ (m.file.first ++ m.file.second))) ++ m.found.rest

made_parts : (bytes : List ℕ) (wanted : Identity) (c : Current) → (m : IsMadeFile bytes wanted c) → bytes ≡ header c.header ++ after_header bytes wanted c m
made_parts bytes wanted c m =
    m.found.parts ∙ (append_assoc m.file.header (m.file.made ∷ (m.file.switch ∷ (m.file.first ++ m.file.second))) m.found.rest
    ∙ ap (λ (l : List ℕ). l ++ ((m.file.made ∷ (m.file.switch ∷ (m.file.first ++ m.file.second))) ++ m.found.rest)) m.header)

made_length : (bytes : List ℕ) (wanted : Identity) (c : Current) → IsMadeFile bytes wanted c → 112 + 2 * c.header.area ≤ length bytes
made_length bytes wanted c m =
    omega (
      arith,
      ap length m.found.parts,
      m.found.header,
      m.found.first,
      m.found.second,
      length-append m.file.first m.file.second,
      length-append m.file.header (m.file.made ∷ (m.file.switch ∷ (m.file.first ++ m.file.second))),
      length-append (m.file.header ++ (m.file.made ∷ (m.file.switch ∷ (m.file.first ++ m.file.second)))) m.found.rest,
    )

made_mark : (bytes : List ℕ) (wanted : Identity) (c : Current) → IsMadeFile bytes wanted c → get_or bytes 110 0 ≡ OPEN
made_mark bytes wanted c m =
    ap (λ (l : List ℕ). get_or l 110 0) (made_parts bytes wanted c m)
    ∙ (get_or-append_right (header c.header) (after_header bytes wanted c m) 110 110 0 (length-header c.header) (omega arith) ∙ m.made)

made_switch : (bytes : List ℕ) (wanted : Identity) (c : Current) → IsMadeFile bytes wanted c → get_or bytes 111 0 ≡ switch_of c.second
made_switch bytes wanted c m =
    ap (λ (l : List ℕ). get_or l 111 0) (made_parts bytes wanted c m)
    ∙ (get_or-append_right (header c.header) (after_header bytes wanted c m) 110 111 0 (length-header c.header) (omega arith) ∙ m.switch)

made_headed : (bytes : List ℕ) (wanted : Identity) (c : Current) → IsMadeFile bytes wanted c → IsHeaded bytes c.header
made_headed bytes wanted c m = record { fits = m.fits; rest = after_header bytes wanted c m; parts = made_parts bytes wanted c m }

headed_once : (bytes : List ℕ) (h g : Header) → IsHeaded bytes h → IsHeaded bytes g → h ≡ g
headed_once bytes h g i j = header_once h g i.rest j.rest i.fits j.fits (sym i.parts ∙ j.parts)

-- no header of another kind is there
has_header : (bytes : List ℕ) (h : Header) (f : HeaderFault) → IsHeaded bytes h → IsNoHeader bytes f → ⊥
has_header bytes h faults.NotJournal i n = n (word32 VERSION ++ (part plain (body h) ++ i.rest)) (i.parts ∙ header_is h i.rest)
has_header bytes h (faults.Version v) i n =
    let both : MAGIC ++ (word32 v ++ n.0.rest) ≡ MAGIC ++ (word32 VERSION ++ (part plain (body h) ++ i.rest)) =
    sym n.0.parts ∙ (i.parts ∙ header_is h i.rest) in
    n.1 (once_32 v VERSION n.0.rest (part plain (body h) ++ i.rest) n.0.small (omega arith) (append_cancel_left MAGIC _ _ both)).0
has_header bytes h faults.Damaged i n = n h i
has_header bytes h (faults.OtherServer s) i n = n
has_header bytes h faults.OtherShape i n = n
has_header bytes h faults.OtherSettings i n = n

-- an identity does not differ from itself
not_other : (found wanted : Identity) (f : HeaderFault) → found ≡ wanted → IsOther found wanted f → ⊥
not_other found wanted (faults.OtherServer s) e o = o.1 (ap (λ (i : Identity). i.server) e)
not_other found wanted faults.OtherShape e o =
    o.1 (record { servers = ap (λ (i : Identity). i.servers) e; disks = ap (λ (i : Identity). i.disks) e; blocks = ap (λ (i : Identity). i.blocks) e })
not_other found wanted faults.OtherSettings e o = o.2 (ap (λ (i : Identity). i.settings) e)
not_other found wanted faults.NotJournal e o = o
not_other found wanted (faults.Version v) e o = o
not_other found wanted faults.Damaged e o = o

not_short : (bytes : List ℕ) (wanted : Identity) (c : Current) → IsMadeFile bytes wanted c → IsShort bytes → ⊥
not_short bytes wanted c m (inl lt) = omega (arith, lt, made_length bytes wanted c m)
not_short bytes wanted c m (inr h) =
    omega (arith, h.2, made_length bytes wanted c m, ap (λ (g : Header). g.area) (headed_once bytes h.0 c.header h.1 (made_headed bytes wanted c m)))

no_mark : (second : Bool) (n : ℕ) → n ≡ switch_of second → n ≢ CLOSED → n ≢ OPEN → ⊥
no_mark false n e a b = a e
no_mark true n e a b = b e

not_unmarked : (bytes : List ℕ) (wanted : Identity) (c : Current) (at : ℕ) → IsMadeFile bytes wanted c → HasNoMark bytes at → ⊥
not_unmarked bytes wanted c at m (inl h) = h.1 (ap (λ n. get_or bytes n 0) h.0 ∙ made_mark bytes wanted c m)
not_unmarked bytes wanted c at m (inr h) = no_mark c.second (get_or bytes at 0) (ap (λ n. get_or bytes n 0) h.0 ∙ made_switch bytes wanted c m) h.1.0 h.1.1

pub not_refused : (bytes : List ℕ) (wanted : Identity) (c : Current) (f : FileFault) → IsMadeFile bytes wanted c → IsRefused bytes wanted f → ⊥
not_refused bytes wanted c Short m r = not_short bytes wanted c m r
not_refused bytes wanted c (BadHeader f) m (inl n) = has_header bytes c.header f (made_headed bytes wanted c m) n
not_refused bytes wanted c (BadHeader f) m (inr o) =
    not_other o.0.identity wanted f (ap (λ (g : Header). g.identity) (headed_once bytes o.0 c.header o.1 (made_headed bytes wanted c m)) ∙ m.identity) o.2
not_refused bytes wanted c (Damaged at) m r = not_unmarked bytes wanted c at m r

one_switch : (a b : Bool) → switch_of a ≡ switch_of b → a ≡ b
one_switch false false e = refl
one_switch true true e = refl
one_switch false true e = let n : 0 ≡ 255 = e in absurd (omega (arith, n))
one_switch true false e = let n : 255 ≡ 0 = e in absurd (omega (arith, n))

pub one_file : (bytes : List ℕ) (wanted : Identity) (c d : Current) → IsMadeFile bytes wanted c → IsMadeFile bytes wanted d → c ≡ d
one_file bytes wanted c d m n =
    let second : c.second ≡ d.second = one_switch c.second d.second (sym (made_switch bytes wanted c m) ∙ made_switch bytes wanted d n) in
    let same : c.header ≡ d.header = headed_once bytes c.header d.header (made_headed bytes wanted c m) (made_headed bytes wanted d n) in
    rw (second, same) refl
