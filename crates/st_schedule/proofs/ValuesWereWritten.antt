-- What is read at a place was written there.
use Rattle.std.proofs.Common.{◌≡◌, ℕ, ◌+◌, ◌^◌, ◌<◌, ◌≤◌, ◌⊎◌, inl, inr, Bool, true, false, cond, List, [], ◌∷◌, ◌++◌, length, take, drop, get_or, refl, sym, ◌∙◌, ap, subst, rules, arith, add-one, drop-cons}
use Rattle.std.proofs.lemmas.Bool.{and_parts}
use Rattle.std.specs.Prelude.{◌==◌, nat_lt, nat_le, Option, Some, None, Result, Ok, Err, position, codes}
use Rattle.std.specs.Fmt.{decimal}
use Rattle.std.specs.Str.{bytes_eq}
use Rattle.std.specs.List.{list_all}
use Rattle.std.specs.Option.{option_map, option_and_then}
use Rattle.std.proofs.lemmas.List.{take-append-drop}
use Rattle.std.proofs.lemmas.List.Quantifiers.{position-Some}
use Rattle.std.proofs.lemmas.Slice.Eq.{bytes_eq-Decides}
use Rattle.std.proofs.lemmas.Bool.Decides.{nat_tests}
use Rattle.std.proofs.lemmas.Fmt.{decimal-digits_value}
use Rattle.st_base.specs.declared.ids.ClientId.{ClientId}
use Rattle.st_base.specs.declared.ids.FileId.{FileId}
use Rattle.st_base.specs.declared.ids.NodeId.{NodeId}
use Rattle.st_base.specs.declared.ids.NodeId.TheVariants as nodes
use Rattle.st_schedule.specs.declared.fault.Fault.{Fault}
use Rattle.st_schedule_words.specs.Words.{is_digit, is_number, has_leading_zero, value, at_most, at_least, in_range, plain, node_of, client_of, server_of, client_alone, client_word, file_of, file_in, file_parted, file_word, is_name, MOST_NODE, MOST_SERVER, MOST_NUMBER}
use Rattle.st_schedule.specs.Grammar.{client_text, node_text, file_text, file_name, after_text, result_text, IsWithin, IsNode, IsFile, IsName, IsAfter}
use Rattle.st_schedule.specs.Parser.{◌>>=◌, place, or_syntax, or_number, number_at, node_at, client_at, file_at, name_at, after_at, result_at, name_in, after_in, after_of, result_of}
use Rattle.st_schedule_words.proofs.Numbers.{own}

-- Tools.

pub bind_ok : {A B : Type 0} (r : Result A Fault) (f : A → Result B Fault) (y : B) → (r >>= f) ≡ Ok y → (x : A) × (r ≡ Ok x) × (f x ≡ Ok y)
bind_ok (Ok x) f y h = (x, refl, h)
bind_ok (Err e) f y h = absurd (cc)

pub if_some : {A : Type 0} (b : Bool) (x y : A) → let o : Option A = Some x in let z : Option A = Some y in cond b o None ≡ z → (b ≡ true) × (x ≡ y)
if_some true x y h = (refl, cc)
if_some false x y h = absurd (cc)

pub unless_some : {A : Type 0} (b : Bool) (o : Option A) (y : A) → cond b None o ≡ Some y → (b ≡ false) × (o ≡ Some y)
unless_some true o y h = absurd (cc)
unless_some false o y h = (refl, h)

pub when_some : {A : Type 0} (b : Bool) (o : Option A) (y : A) → cond b o None ≡ Some y → (b ≡ true) × (o ≡ Some y)
when_some true o y h = (refl, h)
when_some false o y h = absurd (cc)

pub and_then_some : {A B : Type 0} (f : A → Option B) (o : Option A) (y : B) → option_and_then f o ≡ Some y → (x : A) × (o ≡ Some x) × (f x ≡ Some y)
and_then_some f None y h = absurd (cc)
and_then_some f (Some x) y h = (x, refl, h)

pub map_some : {A B : Type 0} (f : A → B) (o : Option A) (y : B) → option_map f o ≡ Some y → (x : A) × (o ≡ Some x) × (f x ≡ y)
map_some f None y h = absurd (cc)
map_some f (Some x) y h = (x, refl, cc)

or_syntax_ok : {A : Type 0} (o : Option A) (ws rest : List (List ℕ)) (y : A × List (List ℕ)) → or_syntax o ws rest ≡ Ok y → (o ≡ Some y.0) × (rest ≡ y.1)
or_syntax_ok {A = A} None ws rest y h = absurd (cc)
or_syntax_ok {A = A} (Some x) ws rest y h = let e : (x, rest) ≡ y = cc in (ap (λ (p : A × List (List ℕ)). Some p.0) e, ap (λ (p : A × List (List ℕ)). p.1) e)

-- a word and what follows it, if a value was found in it
pub place_ok : {A : Type 0} (means : List ℕ → Option A) (ws : List (List ℕ)) (y : A × List (List ℕ)) → place means ws ≡ Ok y → (w : List ℕ) × (ws ≡ w ∷ y.1) × (means w ≡ Some y.0)
place_ok means [] y h = absurd (cc)
place_ok means (w ∷ ws) y h = let k = or_syntax_ok (means w) (w ∷ ws) ws y h in (w, ap (λ (vs : List (List ℕ)). w ∷ vs) k.1, k.0)

pub chosen : {A : Type 0} (b : Bool) (x y z : A) → cond b x y ≡ z → ((b ≡ true) × (x ≡ z)) ⊎ ((b ≡ false) × (y ≡ z))
chosen true x y z h = inl (refl, h)
chosen false x y z h = inr (refl, h)

-- Numbers.

one_zero : (w : List ℕ) → has_leading_zero w ≡ false → 0 < length w → get_or w 0 0 ≡ 48 → length w ≡ 1
one_zero [] h some e = absurd (omega arith)
one_zero (b ∷ bs) h some e = grind (arith, nat_tests)

word_is_decimal : (w : List ℕ) → is_number w ≡ true → has_leading_zero w ≡ false → value w < 2 ^ 64 → w ≡ decimal (value w)
word_is_decimal w h nz small =
    let p : (nat_lt 0 (length w) ≡ true) × (list_all is_digit w ≡ true) = and_parts _ _ h in
    let some : 0 < length w = let t = p.0 in grind (arith, nat_tests) in
    sym (decimal-digits_value own w p.1 some (one_zero w nz some) small)

at_most_is : (most n m : ℕ) → at_most most n ≡ Some m → (n ≤ most) × (n ≡ m)
at_most_is most n m h =
    let p : (nat_le n most ≡ true) × (n ≡ m) = if_some _ _ _ h in
    let t = p.0 in
    (grind (arith, nat_tests), p.1)

at_least_is : (least n m : ℕ) → at_least least n ≡ Some m → (least ≤ n) × (n ≡ m)
at_least_is least n m h =
    let p : (nat_le least n ≡ true) × (n ≡ m) = if_some _ _ _ h in
    let t = p.0 in
    (grind (arith, nat_tests), p.1)

-- the word of a number in this range
pub record IsWritten (least most : ℕ) (w : List ℕ) (n : ℕ) : Type 0 where
  pub text : w ≡ decimal n
  pub range : IsWithin least most n

in_range_is : (least most n : ℕ) (w : List ℕ) → most < 2 ^ 64 → is_number w ≡ true → in_range least most w ≡ Some n → IsWritten least most w n
in_range_is least most n w small digits h =
    let p : (has_leading_zero w ≡ false) × (option_and_then (at_least least) (at_most most (value w)) ≡ Some n) = unless_some _ _ _ h in
    let q : (x : ℕ) × (at_most most (value w) ≡ Some x) × (at_least least x ≡ Some n) = and_then_some _ _ _ p.1 in
    let high = at_most_is most (value w) q.0 q.1 in
    let low = at_least_is least q.0 n q.2 in
    let same : value w ≡ n = high.1 ∙ low.1 in
    record {
      text = word_is_decimal w digits p.0 (let k = high.0 in omega arith) ∙ ap decimal same;
      range = (let a = low.0 in let b = low.1 in omega arith, let a = high.0 in omega arith);
    }

plain_is : (least most n : ℕ) (w : List ℕ) → most < 2 ^ 64 → plain least most w ≡ Some n → IsWritten least most w n
plain_is least most n w small h =
    let p : (is_number w ≡ true) × (in_range least most w ≡ Some n) = when_some _ _ _ h in
    in_range_is least most n w small p.0 p.1

number_in_ok : (b : Bool) (o : Option ℕ) (ws rest : List (List ℕ)) (f : Fault) (y : ℕ × List (List ℕ)) → cond b (or_number o ws rest) (Err f) ≡ Ok y → (b ≡ true) × (o ≡ Some y.0) × (rest ≡ y.1)
number_in_ok true None ws rest f y h = absurd (cc)
number_in_ok true (Some n) ws rest f y h = let e : (n, rest) ≡ y = cc in (refl, ap (λ (p : ℕ × List (List ℕ)). Some p.0) e, ap (λ (p : ℕ × List (List ℕ)). p.1) e)
number_in_ok false o ws rest f y h = absurd (cc)

-- these words are a word, and the rest
pub record Begins (ws : List (List ℕ)) (w : List ℕ) (rest : List (List ℕ)) (P : Type 0) : Type 0 where
  pub text : ws ≡ w ∷ rest
  pub fits : P

pub number_found : (least most : ℕ) (ws : List (List ℕ)) (y : ℕ × List (List ℕ)) → most < 2 ^ 64 → number_at least most ws ≡ Ok y → Begins ws (decimal y.0) y.1 (IsWithin least most y.0)
unfolding number_at
number_found least most [] y small h = absurd (cc)
number_found least most (w ∷ ws) y small h =
    let p : (is_number w ≡ true) × (in_range least most w ≡ Some y.0) × (ws ≡ y.1) = number_in_ok _ _ (w ∷ ws) ws _ y h in
    let k = in_range_is least most y.0 w small p.0 p.1 in
    record { text = ap (λ (v : List ℕ). v ∷ ws) k.text ∙ ap (λ (vs : List (List ℕ)). decimal y.0 ∷ vs) p.2; fits = k.range }

-- Nodes, files and names.

client_is : (b : ℕ) (bs : List ℕ) (n : NodeId) → (b == 99) ≡ true → option_map client_of (plain 1 MOST_NODE bs) ≡ Some n → (b ∷ bs ≡ node_text n) × IsNode n
client_is b bs n h e =
    let p : (k : ℕ) × (plain 1 MOST_NODE bs ≡ Some k) × (client_of k ≡ n) = map_some _ _ _ e in
    let k = plain_is 1 MOST_NODE p.0 bs (omega arith) p.1 in
    let c : b ≡ 99 = grind (arith, nat_tests) in
    subst (λ (n : NodeId). (b ∷ bs ≡ node_text n) × IsNode n) p.2 (ap (λ (x : ℕ). x ∷ bs) c ∙ ap (λ (ds : List ℕ). 99 ∷ ds) k.text, k.range)

server_is : (b : ℕ) (bs : List ℕ) (n : NodeId) → (b == 115) ≡ true → option_map server_of (plain 1 MOST_NODE bs) ≡ Some n → (b ∷ bs ≡ node_text n) × IsNode n
server_is b bs n h e =
    let p : (k : ℕ) × (plain 1 MOST_NODE bs ≡ Some k) × (server_of k ≡ n) = map_some _ _ _ e in
    let k = plain_is 1 MOST_NODE p.0 bs (omega arith) p.1 in
    let c : b ≡ 115 = grind (arith, nat_tests) in
    subst (λ (n : NodeId). (b ∷ bs ≡ node_text n) × IsNode n) p.2 (ap (λ (x : ℕ). x ∷ bs) c ∙ ap (λ (ds : List ℕ). 115 ∷ ds) k.text, k.range)

node_or : (b : ℕ) (bs : List ℕ) (n : NodeId) → cond (b == 115) (option_map server_of (plain 1 MOST_NODE bs)) None ≡ Some n → (b ∷ bs ≡ node_text n) × IsNode n
node_or b bs n h =
    let p : ((b == 115) ≡ true) × (option_map server_of (plain 1 MOST_NODE bs) ≡ Some n) = when_some _ _ _ h in
    server_is b bs n p.0 p.1

node_is : (w : List ℕ) (n : NodeId) → node_of w ≡ Some n → (w ≡ node_text n) × IsNode n
node_is [] n h = absurd (cc)
node_is (b ∷ bs) n h =
    elim (chosen (b == 99) _ _ _ h) as (λ q. (b ∷ bs ≡ node_text n) × IsNode n) [ inl p ↦ client_is b bs n p.0 p.1 | inr p ↦ node_or b bs n p.1 ]

pub node_found : (ws : List (List ℕ)) (y : NodeId × List (List ℕ)) → node_at ws ≡ Ok y → Begins ws (node_text y.0) y.1 (IsNode y.0)
unfolding node_at
node_found ws y h =
    let p : (w : List ℕ) × (ws ≡ w ∷ y.1) × (node_of w ≡ Some y.0) = place_ok node_of ws y h in
    let k = node_is p.0 y.0 p.2 in
    record { text = p.1 ∙ ap (λ (v : List ℕ). v ∷ y.1) k.0; fits = k.1 }

client_alone_is : (n : NodeId) (c : ClientId) → client_alone n ≡ Some c → n ≡ nodes.Client c
client_alone_is (nodes.Client d) c h = let e : d ≡ c = cc in ap nodes.Client e
client_alone_is (nodes.Server s) c h = absurd (cc)

client_word_is : (w : List ℕ) (c : ClientId) → client_word w ≡ Some c → (w ≡ client_text c) × IsWithin 1 MOST_NODE c.0
client_word_is w c h =
    let p : (n : NodeId) × (node_of w ≡ Some n) × (client_alone n ≡ Some c) = and_then_some _ _ _ h in
    let k = node_is w p.0 p.1 in
    let e = client_alone_is p.0 c p.2 in
    (k.0 ∙ ap node_text e, subst IsNode e k.1)

pub client_found : (ws : List (List ℕ)) (y : ClientId × List (List ℕ)) → client_at ws ≡ Ok y → Begins ws (client_text y.0) y.1 (IsWithin 1 MOST_NODE y.0.0)
unfolding client_at
client_found ws y h =
    let p : (w : List ℕ) × (ws ≡ w ∷ y.1) × (client_word w ≡ Some y.0) = place_ok client_word ws y h in
    let k = client_word_is p.0 y.0 p.2 in
    record { text = p.1 ∙ ap (λ (v : List ℕ). v ∷ y.1) k.0; fits = k.1 }

parted : (w : List ℕ) (i : ℕ) → i < length w → get_or w i 0 ≡ 58 → w ≡ take i w ++ 58 ∷ drop (i + 1) w
parted w i h e = sym (take-append-drop i w) ∙ ap (λ (v : List ℕ). take i w ++ v) (drop-cons w i 0 h ∙ rw (e, add-one) refl)

file_parts : (w : List ℕ) (i server ino : ℕ) → i < length w → get_or w i 0 ≡ 58 → IsWritten 1 MOST_SERVER (take i w) server → IsWritten 1 MOST_NUMBER (drop (i + 1) w) ino → (w ≡ file_text server ino) × IsFile server ino
file_parts w i server ino h e a b = (parted w i h e ∙ ap (λ (v : List ℕ). v ++ 58 ∷ drop (i + 1) w) a.text ∙ ap (λ (v : List ℕ). decimal server ++ 58 ∷ v) b.text, (a.range, b.range))

file_parted_is : (w : List ℕ) (i : ℕ) (f : FileId) → i < length w → get_or w i 0 ≡ 58 → file_parted w i ≡ Some f → (w ≡ file_name f) × IsFile f.server.0 f.ino
file_parted_is w i f h e k =
    let p : (server : ℕ) × (plain 1 MOST_SERVER (take i w) ≡ Some server) × (file_in server (plain 1 MOST_NUMBER (drop (i + 1) w)) ≡ Some f) = and_then_some _ _ _ k in
    let q : (ino : ℕ) × (plain 1 MOST_NUMBER (drop (i + 1) w) ≡ Some ino) × (file_of p.0 ino ≡ f) = map_some _ _ _ p.2 in
    subst (λ (f : FileId). (w ≡ file_name f) × IsFile f.server.0 f.ino) q.2
    (file_parts w i p.0 q.0 h e (plain_is 1 MOST_SERVER p.0 (take i w) (omega arith) p.1) (plain_is 1 MOST_NUMBER q.0 (drop (i + 1) w) (omega arith) q.1))

file_is : (w : List ℕ) (f : FileId) → file_word w ≡ Some f → (w ≡ file_name f) × IsFile f.server.0 f.ino
file_is w f h =
    let p : (i : ℕ) × (position (λ b. b == 58) w ≡ Some i) × (file_parted w i ≡ Some f) = and_then_some _ _ _ h in
    let s = position-Some (λ b. b == 58) w p.0 0 p.1 in
    let t : (get_or w p.0 0 == 58) ≡ true = s.1 in
    file_parted_is w p.0 f s.0 (grind (arith, nat_tests)) p.2

pub file_found : (ws : List (List ℕ)) (y : FileId × List (List ℕ)) → file_at ws ≡ Ok y → Begins ws (file_name y.0) y.1 (IsFile y.0.server.0 y.0.ino)
unfolding file_at
file_found ws y h =
    let p : (w : List ℕ) × (ws ≡ w ∷ y.1) × (file_word w ≡ Some y.0) = place_ok file_word ws y h in
    let k = file_is p.0 y.0 p.2 in
    record { text = p.1 ∙ ap (λ (v : List ℕ). v ∷ y.1) k.0; fits = k.1 }

pub name_found : (ws : List (List ℕ)) (y : List ℕ × List (List ℕ)) → name_at ws ≡ Ok y → Begins ws y.0 y.1 (IsName y.0)
unfolding name_at
name_found ws y h =
    let p : (w : List ℕ) × (ws ≡ w ∷ y.1) × (name_in w ≡ Some y.0) = place_ok name_in ws y h in
    let q : (is_name p.0 ≡ true) × (p.0 ≡ y.0) = if_some _ _ _ p.2 in
    record { text = p.1 ∙ ap (λ (v : List ℕ). v ∷ y.1) q.1; fits = subst IsName q.1 q.0 }

-- a word that is this text
pub text_is : (w t : List ℕ) → bytes_eq w t ≡ true → w ≡ t
text_is w t h = search (rules, bytes_eq-Decides)

after_other : (w : List ℕ) → is_name w ≡ true → bytes_eq w (codes "-") ≡ false → (w ≡ after_text w) × IsAfter w
after_other [] name h = absurd (cc)
after_other (b ∷ bs) name h = (refl, inr (name, h))

after_is : (w : List ℕ) → is_name w ≡ true → (w ≡ after_text (after_of w)) × IsAfter (after_of w)
after_is w name =
    elim (chosen (bytes_eq w (codes "-")) [] w (after_of w) refl) as (λ q. (w ≡ after_text (after_of w)) × IsAfter (after_of w)) [
      | inl p ↦ subst (λ (a : List ℕ). (w ≡ after_text a) × IsAfter a) p.1 (text_is w (codes "-") p.0, inl refl)
      | inr p ↦ subst (λ (a : List ℕ). (w ≡ after_text a) × IsAfter a) p.1 (after_other w name p.0)
    ]

pub after_found : (ws : List (List ℕ)) (y : List ℕ × List (List ℕ)) → after_at ws ≡ Ok y → Begins ws (after_text y.0) y.1 (IsAfter y.0)
unfolding after_at
after_found ws y h =
    let p : (w : List ℕ) × (ws ≡ w ∷ y.1) × (after_in w ≡ Some y.0) = place_ok after_in ws y h in
    let q : (v : List ℕ) × (name_in p.0 ≡ Some v) × (after_of v ≡ y.0) = map_some _ _ _ p.2 in
    let r : (is_name p.0 ≡ true) × (p.0 ≡ q.0) = if_some _ _ _ q.1 in
    let a = after_is p.0 r.0 in
    let same : after_of p.0 ≡ y.0 = ap after_of r.1 ∙ q.2 in
    record { text = p.1 ∙ ap (λ (v : List ℕ). v ∷ y.1) (a.0 ∙ ap after_text same); fits = subst IsAfter same a.1 }

fail_is : (w : List ℕ) (ok : Bool) → cond (bytes_eq w (codes "fail")) (let o : Option Bool = Some false in o) None ≡ Some ok → w ≡ result_text ok
fail_is w ok h =
    let p : (bytes_eq w (codes "fail") ≡ true) × (false ≡ ok) = if_some _ _ _ h in
    text_is w (codes "fail") p.0 ∙ ap result_text p.1

result_is : (w : List ℕ) (ok : Bool) → result_of w ≡ Some ok → w ≡ result_text ok
result_is w ok h =
    elim (chosen (bytes_eq w (codes "ok")) _ _ _ h) as (λ q. w ≡ result_text ok) [
      | inl p ↦ (let e : true ≡ ok = let k = p.1 in cc in text_is w (codes "ok") p.0 ∙ ap result_text e)
      | inr p ↦ fail_is w ok p.1
    ]

pub result_found : (ws : List (List ℕ)) (y : Bool × List (List ℕ)) → result_at ws ≡ Ok y → Begins ws (result_text y.0) y.1 (Unit {0})
unfolding result_at
result_found ws y h =
    let p : (w : List ℕ) × (ws ≡ w ∷ y.1) × (result_of w ≡ Some y.0) = place_ok result_of ws y h in
    record { text = p.1 ∙ ap (λ (v : List ℕ). v ∷ y.1) (result_is p.0 y.0 p.2); fits = tt }
