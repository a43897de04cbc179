-- The bytes of a journal's file have one file, and one area that counts.
use Rattle.std.proofs.Common.{◌≡◌, ℕ, ◌+◌, ◌*◌, Bool, true, false, List, [], ◌∷◌, ◌++◌, length, take, drop, refl, sym, ap, ◌∙◌, subst, append_assoc, arith}
use Rattle.std.proofs.lemmas.List.{append_cancel_left, drop_at, take_at}
use Rattle.st_journal_file.specs.Layout.{File, area_of}
use Rattle.st_journal_bytes.specs.Files.{IsMadeFile, file_bytes}
use Rattle.st_journal_bytes.specs.declared.file.Current.{Current}
use Rattle.st_journal_bytes.specs.declared.header.Identity.{Identity}
use Rattle.st_journal_bytes.proofs.MadeFiles as files

-- equal lists whose first parts have one length have equal parts

first_same : (xs ys r q : List ℕ) → length xs ≡ length ys → xs ++ r ≡ ys ++ q → xs ≡ ys
first_same xs ys r q n e = sym (take_at xs r (length ys) n) ∙ (ap (λ (l : List ℕ). take (length ys) l) e ∙ take_at ys q (length ys) refl)

second_same : (xs ys r q : List ℕ) → length xs ≡ length ys → xs ++ r ≡ ys ++ q → r ≡ q
second_same xs ys r q n e = sym (drop_at xs r (length ys) n) ∙ (ap (λ (l : List ℕ). drop (length ys) l) e ∙ drop_at ys q (length ys) refl)

tail_is : (a b : ℕ) (xs ys : List ℕ) → a ∷ xs ≡ b ∷ ys → xs ≡ ys
tail_is a b xs ys e = cc

-- what follows the header
after : File → List ℕ → List ℕ
after b rest = b.made ∷ (b.switch ∷ ((b.first ++ b.second) ++ rest))

parts_of : (b : File) (rest : List ℕ) → file_bytes b ++ rest ≡ b.header ++ after b rest
unfolding after
parts_of b rest = append_assoc b.header (b.made ∷ (b.switch ∷ (b.first ++ b.second))) rest

areas_of : (b c : File) (r q : List ℕ) → after b r ≡ after c q → (b.first ++ b.second) ++ r ≡ (c.first ++ c.second) ++ q
unfolding after
areas_of b c r q e = tail_is b.switch c.switch _ _ (tail_is b.made c.made _ _ e)

file_same : (b c : File) → b.header ≡ c.header → b.made ≡ c.made → b.switch ≡ c.switch → b.first ≡ c.first → b.second ≡ c.second → b ≡ c
file_same b c e f g h k = rw (e, f, g, h, k) refl

pub one_file : (bytes : List ℕ) (i : Identity) (c : Current) (m n : IsMadeFile bytes i c) → m.file ≡ n.file
one_file bytes i c m n =
    let headers : m.file.header ≡ n.file.header = m.header ∙ sym n.header in
    let whole : m.file.header ++ after m.file m.found.rest ≡ n.file.header ++ after n.file n.found.rest =
    sym (parts_of m.file m.found.rest) ∙ (sym m.found.parts ∙ (n.found.parts ∙ parts_of n.file n.found.rest)) in
    let rest : after m.file m.found.rest ≡ after n.file n.found.rest =
    second_same m.file.header n.file.header (after m.file m.found.rest) (after n.file n.found.rest) (ap length headers) whole in
    let areas : (m.file.first ++ m.file.second) ++ m.found.rest ≡ (n.file.first ++ n.file.second) ++ n.found.rest =
    areas_of m.file n.file m.found.rest n.found.rest rest in
    let both : m.file.first ++ (m.file.second ++ m.found.rest) ≡ n.file.first ++ (n.file.second ++ n.found.rest) =
    sym (append_assoc m.file.first m.file.second m.found.rest) ∙ (areas ∙ append_assoc n.file.first n.file.second n.found.rest) in
    let long : length m.file.first ≡ length n.file.first = m.found.first ∙ sym n.found.first in
    let seconds = second_same m.file.first n.file.first (m.file.second ++ m.found.rest) (n.file.second ++ n.found.rest) long both in
    file_same m.file n.file headers (m.made ∙ sym n.made) (m.switch ∙ sym n.switch)
    (first_same m.file.first n.file.first (m.file.second ++ m.found.rest) (n.file.second ++ n.found.rest) long both)
    (first_same m.file.second n.file.second m.found.rest n.found.rest (m.found.second ∙ sym n.found.second) seconds)

-- the same, of two readings
pub same_file : (bytes : List ℕ) (i : Identity) (c d : Current) (m : IsMadeFile bytes i c) (n : IsMadeFile bytes i d) → m.file ≡ n.file
same_file bytes i c d m n =
    subst (λ (x : Current). (k : IsMadeFile bytes i x) → m.file ≡ k.file) (files.one_file bytes i c d m n) (λ k. one_file bytes i c m k) n

-- how many bytes an area has
pub size_by : (second : Bool) (b : File) (n : ℕ) → length b.first ≡ n → length b.second ≡ n → length (area_of second b) ≡ n
size_by false b n e f = e
size_by true b n e f = f
