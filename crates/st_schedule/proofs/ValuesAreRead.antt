-- What is written at a place is read there.
use Rattle.std.proofs.Common.{◌≡◌, ℕ, ◌+◌, ◌^◌, ◌<◌, ◌≤◌, inl, inr, Bool, true, false, List, [], ◌∷◌, ◌++◌, length, take, drop, refl, ◌∙◌, ap, arith}
use Rattle.std.specs.Prelude.{◌==◌, Option, Some, Ok, position, codes}
use Rattle.std.specs.Fmt.{decimal}
use Rattle.std.specs.Str.{bytes_eq}
use Rattle.std.specs.List.{list_all, position_or_len}
use Rattle.std.specs.Option.{option_map, option_and_then}
use Rattle.std.proofs.Math.Seq.{take-append_seam, drop-append-add}
use Rattle.std.proofs.lemmas.List.{length-append}
use Rattle.std.proofs.lemmas.Bool.Decides.{nat_tests}
use Rattle.std.proofs.lemmas.Fmt.{digits_decimal}
use Rattle.st_base.specs.declared.ids.ClientId.{ClientId}
use Rattle.st_base.specs.declared.ids.FileId.{FileId}
use Rattle.st_base.specs.declared.ids.PageNo.{PageNo}
use Rattle.st_base.specs.declared.ids.NodeId.{NodeId}
use Rattle.st_base.specs.declared.ids.NodeId.TheVariants as nodes
use Rattle.st_schedule_words.specs.Words.{is_digit, plain, node_of, client_of, server_of, client_alone, file_of, file_parted, file_word, is_name, MOST_NODE, MOST_SERVER, MOST_NUMBER}
use Rattle.st_schedule.specs.Grammar.{client_text, node_text, file_text, file_name, after_text, result_text, IsWithin, IsNode, IsFile, IsPlace, IsName, IsAfter, MOST_PAGE}
use Rattle.st_schedule.specs.Parser.{number_at, node_at, client_at, file_at, name_at, after_at, result_at, place_at, entry_at, or_syntax}
use Rattle.st_schedule_words.proofs.Numbers.{own, decimal_is_number, decimal_in_range, decimal_plain}

pub number_again : (least most n : ℕ) (ws : List (List ℕ)) → n < 2 ^ 64 → least ≤ n → n ≤ most → number_at least most (decimal n ∷ ws) ≡ Ok (n, ws)
unfolding number_at
number_again least most n ws h low high = rw (decimal_is_number n h, decimal_in_range least most n h low high) refl

client_node : (n : ℕ) → IsWithin 1 MOST_NODE n → node_of (99 ∷ decimal n) ≡ Some (client_of n)
client_node n fits = ap (option_map client_of) (decimal_plain 1 MOST_NODE n (omega arith) fits.0 fits.1)

server_node : (n : ℕ) → IsWithin 1 MOST_NODE n → node_of (115 ∷ decimal n) ≡ Some (server_of n)
server_node n fits = ap (option_map server_of) (decimal_plain 1 MOST_NODE n (omega arith) fits.0 fits.1)

node_is : (n : NodeId) → IsNode n → node_of (node_text n) ≡ Some n
node_is (nodes.Client c) fits = client_node c.0 fits
node_is (nodes.Server s) fits = server_node s.0 fits

pub node_again : (n : NodeId) (ws : List (List ℕ)) → IsNode n → node_at (node_text n ∷ ws) ≡ Ok (n, ws)
unfolding node_at
node_again n ws fits = ap (λ (o : Option NodeId). or_syntax o (node_text n ∷ ws) ws) (node_is n fits)

pub client_again : (c : ClientId) (ws : List (List ℕ)) → IsWithin 1 MOST_NODE c.0 → client_at (client_text c ∷ ws) ≡ Ok (c, ws)
unfolding client_at
client_again c ws fits = ap (λ (o : Option NodeId). or_syntax (option_and_then client_alone o) (client_text c ∷ ws) ws) (client_node c.0 fits)

-- the first colon comes after the digits
colon_behind : (ds rest : List ℕ) → list_all is_digit ds ≡ true → position_or_len (λ b. b == 58) (ds ++ 58 ∷ rest) ≡ length ds
colon_behind [] rest h = refl
colon_behind (d ∷ ds) rest h = let k = colon_behind ds rest in grind (arith, nat_tests, k)

colon_is : (ds rest : List ℕ) → list_all is_digit ds ≡ true → position (λ b. b == 58) (ds ++ 58 ∷ rest) ≡ Some (length ds)
colon_is ds rest h =
    let e = colon_behind ds rest h in
    let l = length-append ds (58 ∷ rest) in
    rw e (grind (arith, nat_tests))

file_is : (server ino : ℕ) → IsFile server ino → file_word (file_text server ino) ≡ Some (file_of server ino)
file_is server ino fits =
    let small : server < 2 ^ 64 = omega arith in
    let front : take (length (decimal server)) (file_text server ino) ≡ decimal server = take-append_seam (decimal server) (58 ∷ decimal ino) in
    let back : drop (length (decimal server) + 1) (file_text server ino) ≡ decimal ino = drop-append-add (decimal server) (58 ∷ decimal ino) 1 in
    let s : plain 1 MOST_SERVER (decimal server) ≡ Some server = decimal_plain 1 MOST_SERVER server small fits.0.0 fits.0.1 in
    let i : plain 1 MOST_NUMBER (decimal ino) ≡ Some ino = decimal_plain 1 MOST_NUMBER ino (omega arith) fits.1.0 fits.1.1 in
    let parts : file_parted (file_text server ino) (length (decimal server)) ≡ Some (file_of server ino) = rw (front, back, s, i) refl in
    ap (option_and_then (file_parted (file_text server ino))) (colon_is (decimal server) (decimal ino) (digits_decimal own server small)) ∙ parts

pub file_again : (server ino : ℕ) (ws : List (List ℕ)) → IsFile server ino → file_at (file_text server ino ∷ ws) ≡ Ok (file_of server ino, ws)
unfolding file_at
file_again server ino ws fits = ap (λ (o : Option FileId). or_syntax o (file_text server ino ∷ ws) ws) (file_is server ino fits)

pub name_again : (name : List ℕ) (ws : List (List ℕ)) → IsName name → name_at (name ∷ ws) ≡ Ok (name, ws)
unfolding name_at
name_again name ws fits = rw fits refl

after_named : (b : ℕ) (bs : List ℕ) (ws : List (List ℕ)) → is_name (b ∷ bs) ≡ true → bytes_eq (b ∷ bs) (codes "-") ≡ false → after_at ((b ∷ bs) ∷ ws) ≡ Ok (b ∷ bs, ws)
unfolding after_at
after_named b bs ws name other = rw (name, other) refl

after_start : (ws : List (List ℕ)) → after_at (codes "-" ∷ ws) ≡ Ok ([], ws)
unfolding after_at
after_start ws = refl

pub after_again : (after : List ℕ) (ws : List (List ℕ)) → IsAfter after → after_at (after_text after ∷ ws) ≡ Ok (after, ws)
after_again [] ws fits = after_start ws
after_again (b ∷ bs) ws (inl e) = absurd (cc)
after_again (b ∷ bs) ws (inr fits) = after_named b bs ws fits.0 fits.1

pub result_again : (ok : Bool) (ws : List (List ℕ)) → result_at (result_text ok ∷ ws) ≡ Ok (ok, ws)
unfolding result_at
result_again true ws = refl
result_again false ws = refl

pub place_again : (f : FileId) (p : PageNo) (ws : List (List ℕ)) → IsPlace f p → place_at (file_name f ∷ decimal p.0 ∷ ws) ≡ Ok ((f, p), ws)
unfolding place_at
place_again f p ws fits = rw (file_again f.server.0 f.ino (decimal p.0 ∷ ws) fits.0, number_again 0 MOST_PAGE p.0 ws (omega arith) (omega arith) fits.1) refl

pub entry_again : (s dir : ℕ) (name : List ℕ) (ws : List (List ℕ)) → IsFile s dir → IsName name → entry_at (file_text s dir ∷ name ∷ ws) ≡ Ok ((file_of s dir, name), ws)
unfolding entry_at
entry_again s dir name ws file fits = rw (file_again s dir (name ∷ ws) file, name_again name ws fits) refl
