-- What is read of a line was spelled so.
use Rattle.std.proofs.Common.{◌≡◌, ℕ, zero, suc, ◌+◌, ◌-◌, ◌^◌, ◌<◌, ◌≤◌, inl, inr, Bool, true, false, cond, List, [], ◌∷◌, ◌++◌, length, replicate, refl, sym, ◌∙◌, ap, subst, arith}
use Rattle.std.proofs.lemmas.Bool.{and_parts}
use Rattle.std.specs.Prelude.{◌==◌, ◌&&◌, Option, Some, None, Result, Ok, Err, codes}
use Rattle.std.specs.Fmt.{decimal}
use Rattle.std.specs.Str.{bytes_eq}
use Rattle.std.specs.List.{list_all, AllByRecursion}
use Rattle.std.proofs.lemmas.Bool.Decides.{nat_tests}
use Rattle.std.proofs.lemmas.List.{length-replicate, get_or-replicate, append-nil}
use Rattle.st_base.specs.Page.{filled}
use Rattle.st_base.specs.declared.ids.FileId.{FileId}
use Rattle.st_base.specs.declared.ids.PageNo.{PageNo}
use Rattle.st_base.specs.declared.ids.NodeId.{NodeId}
use Rattle.st_base.specs.declared.names.NameAsk.TheVariants as name_asks
use Rattle.st_messages.specs.declared.ask.Ask.{Ask}
use Rattle.st_messages.specs.declared.ask.Ask.TheVariants as asks
use Rattle.st_messages.specs.declared.event.Event.{Event}
use Rattle.st_messages.specs.declared.event.Event.TheVariants as events
use Rattle.st_schedule.specs.declared.fault.Fault.{Fault}
use Rattle.st_schedule.specs.declared.verb.Verb.{Verb}
use Rattle.st_schedule.specs.declared.verb.Verb.TheVariants as verbs
use Rattle.st_schedule.specs.declared.verb.AskVerb.{AskVerb}
use Rattle.st_schedule.specs.declared.verb.AskVerb.TheVariants as ask_verbs
use Rattle.st_schedule_words.specs.Words.{MOST_NUMBER}
use Rattle.st_schedule.specs.Grammar.{words_after, ask_words, name_words, steps_words, in_full, byte_of, file_name, node_text, client_text, result_text, IsWithin, IsNode, IsFile, IsPlace, IsName, FitsAsk, least_step, Spells, MOST_PAGE}
use Rattle.st_schedule.specs.Parser.{◌>>=◌, place_at, entry_at, page_of, write_at, read_at, sync_at, cut_at, range_at, patch_at, lookup_at, create_at, mkdir_at, remove_at, rename_at, list_at, asked_at, ask_verb_at, ask_verb_of, name_verb_of, app_at, steps_at, steps_of, advance_at, link_at, cut_link_at, heal_at, tick_at, crash_at, start_at, deliver_at, lose_at, effect_at, report_at, event_at, verb_of, link_or_later, crash_or_start, verb_in, or_wrong, event_of, end_of, line_event, ends, named}
use Rattle.st_schedule.proofs.ValuesWereWritten.{bind_ok, chosen, Begins, number_found, node_found, client_found, file_found, name_found, after_found, result_found, text_is, place_ok}

small_number : MOST_NUMBER < 2 ^ 64
small_number = omega arith

small_4095 : 4095 < 2 ^ 64
small_4095 = omega arith

small_rest : (n : ℕ) → 4096 - n < 2 ^ 64
small_rest n = omega arith

-- Asks. A word and the words after it are those of an ask, and the rest.

pub record IsAsked (form : ℕ) (w : List ℕ) (ws : List (List ℕ)) (y : Ask × List (List ℕ)) : Type 0 where
  pub text : w ∷ ws ≡ ask_words y.0 ++ y.1
  pub fits : FitsAsk form y.0

-- two words
pub record Two (ws : List (List ℕ)) (v w : List ℕ) (rest : List (List ℕ)) (P : Type 0) : Type 0 where
  pub text : ws ≡ v ∷ w ∷ rest
  pub fits : P

place_found : (ws : List (List ℕ)) (y : (FileId × PageNo) × List (List ℕ)) → place_at ws ≡ Ok y → Two ws (file_name y.0.0) (decimal y.0.1.0) y.1 (IsPlace y.0.0 y.0.1)
unfolding place_at
place_found ws y h =
    let f = bind_ok _ _ _ h in
    let p = bind_ok _ _ _ f.2 in
    let F = file_found ws f.0 f.1 in
    let P = number_found 0 MOST_PAGE f.0.1 p.0 (omega arith) p.1 in
    let e : ((f.0.0, page_of p.0.0), p.0.1) ≡ y = let k = p.2 in cc in
    subst (λ (y : (FileId × PageNo) × List (List ℕ)). Two ws (file_name y.0.0) (decimal y.0.1.0) y.1 (IsPlace y.0.0 y.0.1)) e
    (record { text = F.text ∙ ap (λ (vs : List (List ℕ)). file_name f.0.0 ∷ vs) P.text; fits = (F.fits, P.fits.1) })

entry_found : (ws : List (List ℕ)) (y : (FileId × List ℕ) × List (List ℕ)) → entry_at ws ≡ Ok y → Two ws (file_name y.0.0) y.0.1 y.1 (IsFile y.0.0.server.0 y.0.0.ino × IsName y.0.1)
unfolding entry_at
entry_found ws y h =
    let f = bind_ok _ _ _ h in
    let n = bind_ok _ _ _ f.2 in
    let F = file_found ws f.0 f.1 in
    let N = name_found f.0.1 n.0 n.1 in
    let e : ((f.0.0, n.0.0), n.0.1) ≡ y = let k = n.2 in cc in
    subst (λ (y : (FileId × List ℕ) × List (List ℕ)). Two ws (file_name y.0.0) y.0.1 y.1 (IsFile y.0.0.server.0 y.0.0.ino × IsName y.0.1)) e
    (record { text = F.text ∙ ap (λ (vs : List (List ℕ)). file_name f.0.0 ∷ vs) N.text; fits = (F.fits, N.fits) })

range_found : (ws : List (List ℕ)) (y : (ℕ × ℕ) × List (List ℕ)) → range_at ws ≡ Ok y → Two ws (decimal y.0.0) (decimal y.0.1) y.1 ((1 ≤ y.0.1) × (y.0.0 + y.0.1 ≤ 4096))
unfolding range_at
range_found ws y h =
    let a = bind_ok _ _ _ h in
    let l = bind_ok _ _ _ a.2 in
    let A = number_found 0 4095 ws a.0 small_4095 a.1 in
    let L = number_found 1 (4096 - a.0.0) a.0.1 l.0 (small_rest a.0.0) l.1 in
    let e : ((a.0.0, l.0.0), l.0.1) ≡ y = let k = l.2 in cc in
    let low = A.fits in
    let high = L.fits in
    subst (λ (y : (ℕ × ℕ) × List (List ℕ)). Two ws (decimal y.0.0) (decimal y.0.1) y.1 ((1 ≤ y.0.1) × (y.0.0 + y.0.1 ≤ 4096))) e
    (record { text = A.text ∙ ap (λ (vs : List (List ℕ)). decimal a.0.0 ∷ vs) L.text; fits = (high.0, omega arith) })

filled_byte : (b : ℕ) → byte_of (filled b) ≡ b
unfolding filled
filled_byte b = refl

write_found : (form : ℕ) (ws : List (List ℕ)) (y : Ask × List (List ℕ)) → write_at ws ≡ Ok y → IsAsked form (codes "write") ws y
unfolding write_at ask_words
write_found form ws y h =
    let p = bind_ok _ _ _ h in
    let b = bind_ok _ _ _ p.2 in
    let P = place_found ws p.0 p.1 in
    let B = number_found 0 255 p.0.1 b.0 (omega arith) b.1 in
    let e : (asks.Write p.0.0.0 p.0.0.1 (filled b.0.0), b.0.1) ≡ y = let k = b.2 in cc in
    let same = filled_byte b.0.0 in
    subst (λ (y : Ask × List (List ℕ)). IsAsked form (codes "write") ws y) e
    (record {
      text = ap (λ (vs : List (List ℕ)). codes "write" ∷ vs) (P.text ∙ ap (λ (vs : List (List ℕ)). file_name p.0.0.0 ∷ decimal p.0.0.1.0 ∷ vs) (B.text ∙ ap (λ (n : ℕ). decimal n ∷ b.0.1) (sym same)));
      fits = (P.fits, (rw same B.fits.1, ap filled (sym same)));
    })

read_found : (form : ℕ) (ws : List (List ℕ)) (y : Ask × List (List ℕ)) → read_at ws ≡ Ok y → IsAsked form (codes "read") ws y
unfolding read_at ask_words
read_found form ws y h =
    let p = bind_ok _ _ _ h in
    let P = place_found ws p.0 p.1 in
    let e : (asks.Read p.0.0.0 p.0.0.1, p.0.1) ≡ y = let k = p.2 in cc in
    subst (λ (y : Ask × List (List ℕ)). IsAsked form (codes "read") ws y) e
    (record { text = ap (λ (vs : List (List ℕ)). codes "read" ∷ vs) P.text; fits = P.fits })

cut_found : (form : ℕ) (ws : List (List ℕ)) (y : Ask × List (List ℕ)) → cut_at ws ≡ Ok y → IsAsked form (codes "cut") ws y
unfolding cut_at ask_words
cut_found form ws y h =
    let p = bind_ok _ _ _ h in
    let P = place_found ws p.0 p.1 in
    let e : (asks.Cut p.0.0.0 p.0.0.1, p.0.1) ≡ y = let k = p.2 in cc in
    subst (λ (y : Ask × List (List ℕ)). IsAsked form (codes "cut") ws y) e
    (record { text = ap (λ (vs : List (List ℕ)). codes "cut" ∷ vs) P.text; fits = P.fits })

sync_found : (form : ℕ) (ws : List (List ℕ)) (y : Ask × List (List ℕ)) → sync_at ws ≡ Ok y → IsAsked form (codes "sync") ws y
unfolding sync_at ask_words
sync_found form ws y h =
    let f = bind_ok _ _ _ h in
    let F = file_found ws f.0 f.1 in
    let e : (asks.Sync f.0.0, f.0.1) ≡ y = let k = f.2 in cc in
    subst (λ (y : Ask × List (List ℕ)). IsAsked form (codes "sync") ws y) e
    (record { text = ap (λ (vs : List (List ℕ)). codes "sync" ∷ vs) F.text; fits = F.fits })

repeated_is : (n b : ℕ) → 1 ≤ n → (length (replicate n b) ≡ n) × (byte_of (replicate n b) ≡ b)
repeated_is n b some = (length-replicate n b, get_or-replicate n 0 b 0 some)

patch_is : (f : FileId) (p : PageNo) (at len b : ℕ) (bytes : List ℕ) → bytes ≡ replicate len b → length bytes ≡ len → byte_of bytes ≡ b → IsPlace f p → 1 ≤ len → at + len ≤ 4096 → b ≤ 255 → FitsAsk 2 (asks.Patch f p at bytes)
patch_is f p at len b bytes e l first place some inside small =
    (place, (refl, omega arith, omega arith, rw first small, rw (l, first) e))

patch_found : (ws : List (List ℕ)) (y : Ask × List (List ℕ)) → patch_at ws ≡ Ok y → IsAsked 2 (codes "patch") ws y
unfolding patch_at ask_words
patch_found ws y h =
    let p = bind_ok _ _ _ h in
    let r = bind_ok _ _ _ p.2 in
    let b = bind_ok _ _ _ r.2 in
    let P = place_found ws p.0 p.1 in
    let R = range_found p.0.1 r.0 r.1 in
    let B = number_found 0 255 r.0.1 b.0 (omega arith) b.1 in
    let s = repeated_is r.0.0.1 b.0.0 R.fits.0 in
    let e : (asks.Patch p.0.0.0 p.0.0.1 r.0.0.0 (replicate r.0.0.1 b.0.0), b.0.1) ≡ y = let k = b.2 in cc in
    subst (λ (y : Ask × List (List ℕ)). IsAsked 2 (codes "patch") ws y) e
    (record {
      text = ap (λ (vs : List (List ℕ)). codes "patch" ∷ vs) (P.text ∙ ap (λ (vs : List (List ℕ)). file_name p.0.0.0 ∷ decimal p.0.0.1.0 ∷ vs)
          (R.text ∙ ap (λ (n : ℕ). decimal r.0.0.0 ∷ decimal n ∷ r.0.1) (sym s.0)
          ∙ ap (λ (vs : List (List ℕ)). decimal r.0.0.0 ∷ decimal (length (replicate r.0.0.1 b.0.0)) ∷ vs) (B.text ∙ ap (λ (n : ℕ). decimal n ∷ b.0.1) (sym s.1))));
      fits = patch_is p.0.0.0 p.0.0.1 r.0.0.0 r.0.0.1 b.0.0 _ refl s.0 s.1 P.fits R.fits.0 R.fits.1 B.fits.1;
    })

lookup_found : (form : ℕ) (ws : List (List ℕ)) (y : Ask × List (List ℕ)) → lookup_at ws ≡ Ok y → IsAsked form (codes "lookup") ws y
unfolding lookup_at ask_words name_words
lookup_found form ws y h =
    let p = bind_ok _ _ _ h in
    let P = entry_found ws p.0 p.1 in
    let e : (named p.0.0.0 (name_asks.Lookup p.0.0.0.ino p.0.0.1), p.0.1) ≡ y = let k = p.2 in cc in
    subst (λ (y : Ask × List (List ℕ)). IsAsked form (codes "lookup") ws y) e
    (record { text = ap (λ (vs : List (List ℕ)). codes "lookup" ∷ vs) P.text; fits = P.fits })

create_found : (form : ℕ) (ws : List (List ℕ)) (y : Ask × List (List ℕ)) → create_at ws ≡ Ok y → IsAsked form (codes "create") ws y
unfolding create_at ask_words name_words
create_found form ws y h =
    let p = bind_ok _ _ _ h in
    let P = entry_found ws p.0 p.1 in
    let e : (named p.0.0.0 (name_asks.Create p.0.0.0.ino p.0.0.1), p.0.1) ≡ y = let k = p.2 in cc in
    subst (λ (y : Ask × List (List ℕ)). IsAsked form (codes "create") ws y) e
    (record { text = ap (λ (vs : List (List ℕ)). codes "create" ∷ vs) P.text; fits = P.fits })

mkdir_found : (form : ℕ) (ws : List (List ℕ)) (y : Ask × List (List ℕ)) → mkdir_at ws ≡ Ok y → IsAsked form (codes "mkdir") ws y
unfolding mkdir_at ask_words name_words
mkdir_found form ws y h =
    let p = bind_ok _ _ _ h in
    let P = entry_found ws p.0 p.1 in
    let e : (named p.0.0.0 (name_asks.Mkdir p.0.0.0.ino p.0.0.1), p.0.1) ≡ y = let k = p.2 in cc in
    subst (λ (y : Ask × List (List ℕ)). IsAsked form (codes "mkdir") ws y) e
    (record { text = ap (λ (vs : List (List ℕ)). codes "mkdir" ∷ vs) P.text; fits = P.fits })

remove_found : (form : ℕ) (ws : List (List ℕ)) (y : Ask × List (List ℕ)) → remove_at ws ≡ Ok y → IsAsked form (codes "remove") ws y
unfolding remove_at ask_words name_words
remove_found form ws y h =
    let p = bind_ok _ _ _ h in
    let i = bind_ok _ _ _ p.2 in
    let P = entry_found ws p.0 p.1 in
    let I = number_found 0 MOST_NUMBER p.0.1 i.0 small_number i.1 in
    let e : (named p.0.0.0 (name_asks.Remove p.0.0.0.ino p.0.0.1 i.0.0), i.0.1) ≡ y = let k = i.2 in cc in
    subst (λ (y : Ask × List (List ℕ)). IsAsked form (codes "remove") ws y) e
    (record { text = ap (λ (vs : List (List ℕ)). codes "remove" ∷ vs) (P.text ∙ ap (λ (vs : List (List ℕ)). file_name p.0.0.0 ∷ p.0.0.1 ∷ vs) I.text); fits = (P.fits.0, P.fits.1, I.fits.1) })

rename_found : (form : ℕ) (ws : List (List ℕ)) (y : Ask × List (List ℕ)) → rename_at ws ≡ Ok y → IsAsked form (codes "rename") ws y
unfolding rename_at ask_words name_words
rename_found form ws y h =
    let p = bind_ok _ _ _ h in
    let d = bind_ok _ _ _ p.2 in
    let n = bind_ok _ _ _ d.2 in
    let P = entry_found ws p.0 p.1 in
    let D = number_found 1 MOST_NUMBER p.0.1 d.0 small_number d.1 in
    let N = name_found d.0.1 n.0 n.1 in
    let e : (named p.0.0.0 (name_asks.Rename p.0.0.0.ino p.0.0.1 d.0.0 n.0.0), n.0.1) ≡ y = let k = n.2 in cc in
    subst (λ (y : Ask × List (List ℕ)). IsAsked form (codes "rename") ws y) e
    (record {
      text = ap (λ (vs : List (List ℕ)). codes "rename" ∷ vs) (P.text ∙ ap (λ (vs : List (List ℕ)). file_name p.0.0.0 ∷ p.0.0.1 ∷ vs) (D.text ∙ ap (λ (vs : List (List ℕ)). decimal d.0.0 ∷ vs) N.text));
      fits = (P.fits.0, P.fits.1, D.fits, N.fits);
    })

list_found : (form : ℕ) (ws : List (List ℕ)) (y : Ask × List (List ℕ)) → list_at ws ≡ Ok y → IsAsked form (codes "list") ws y
unfolding list_at ask_words name_words
list_found form ws y h =
    let f = bind_ok _ _ _ h in
    let a = bind_ok _ _ _ f.2 in
    let F = file_found ws f.0 f.1 in
    let A = after_found f.0.1 a.0 a.1 in
    let e : (named f.0.0 (name_asks.List f.0.0.ino a.0.0), a.0.1) ≡ y = let k = a.2 in cc in
    subst (λ (y : Ask × List (List ℕ)). IsAsked form (codes "list") ws y) e
    (record { text = ap (λ (vs : List (List ℕ)). codes "list" ∷ vs) (F.text ∙ ap (λ (vs : List (List ℕ)). file_name f.0.0 ∷ vs) A.text); fits = (F.fits, A.fits) })

-- the word of an ask
abbrev pub ask_verb_text : AskVerb → List ℕ
ask_verb_text ask_verbs.Write = codes "write"
ask_verb_text ask_verbs.Read = codes "read"
ask_verb_text ask_verbs.Sync = codes "sync"
ask_verb_text ask_verbs.Cut = codes "cut"
ask_verb_text ask_verbs.Patch = codes "patch"
ask_verb_text ask_verbs.Lookup = codes "lookup"
ask_verb_text ask_verbs.Create = codes "create"
ask_verb_text ask_verbs.Mkdir = codes "mkdir"
ask_verb_text ask_verbs.Remove = codes "remove"
ask_verb_text ask_verbs.Rename = codes "rename"
ask_verb_text ask_verbs.List = codes "list"

-- under the first form no patch is asked
abbrev pub IsUnder : ℕ → AskVerb → Type 0
IsUnder form ask_verbs.Patch = form ≡ 2
IsUnder form v = Unit {0}

asked_found : (form : ℕ) (v : AskVerb) (ws : List (List ℕ)) (y : Ask × List (List ℕ)) → IsUnder form v → asked_at v ws ≡ Ok y → IsAsked form (ask_verb_text v) ws y
unfolding asked_at
asked_found form ask_verbs.Write ws y u h = write_found form ws y h
asked_found form ask_verbs.Read ws y u h = read_found form ws y h
asked_found form ask_verbs.Sync ws y u h = sync_found form ws y h
asked_found form ask_verbs.Cut ws y u h = cut_found form ws y h
asked_found form ask_verbs.Patch ws y u h = subst (λ (n : ℕ). IsAsked n (codes "patch") ws y) (sym u) (patch_found ws y h)
asked_found form ask_verbs.Lookup ws y u h = lookup_found form ws y h
asked_found form ask_verbs.Create ws y u h = create_found form ws y h
asked_found form ask_verbs.Mkdir ws y u h = mkdir_found form ws y h
asked_found form ask_verbs.Remove ws y u h = remove_found form ws y h
asked_found form ask_verbs.Rename ws y u h = rename_found form ws y h
asked_found form ask_verbs.List ws y u h = list_found form ws y h

-- a choice by a word
pub choose : {V : Type 0} (P : V → Type 0) (b : Bool) (v z : V) (rest : Option V) → cond b (Some v) rest ≡ Some z → (b ≡ true → P v) → (rest ≡ Some z → P z) → P z
choose P true v z rest h this that = let e : v ≡ z = cc in subst P e (this refl)
choose P false v z rest h this that = that h

abbrev pub IsAskVerb : ℕ → List ℕ → AskVerb → Type 0
IsAskVerb form w v = (w ≡ ask_verb_text v) × IsUnder form v

name_verb_is : (form : ℕ) (w : List ℕ) (v : AskVerb) → name_verb_of w ≡ Some v → IsAskVerb form w v
name_verb_is form w v h =
    choose (IsAskVerb form w) _ ask_verbs.Lookup v _ h (λ b. (text_is w _ b, tt)) (λ h.
    choose (IsAskVerb form w) _ ask_verbs.Create v _ h (λ b. (text_is w _ b, tt)) (λ h.
    choose (IsAskVerb form w) _ ask_verbs.Mkdir v _ h (λ b. (text_is w _ b, tt)) (λ h.
    choose (IsAskVerb form w) _ ask_verbs.Remove v _ h (λ b. (text_is w _ b, tt)) (λ h.
    choose (IsAskVerb form w) _ ask_verbs.Rename v _ h (λ b. (text_is w _ b, tt)) (λ h.
    choose (IsAskVerb form w) _ ask_verbs.List v _ h (λ b. (text_is w _ b, tt)) (λ h. absurd (cc)))))))

patch_is_asked : (form : ℕ) (w : List ℕ) → ((form == 2) && bytes_eq w (codes "patch")) ≡ true → IsAskVerb form w ask_verbs.Patch
patch_is_asked form w h =
    let p : ((form == 2) ≡ true) × (bytes_eq w (codes "patch") ≡ true) = and_parts _ _ h in
    let t = p.0 in
    (text_is w (codes "patch") p.1, grind (arith, nat_tests))

ask_verb_is : (form : ℕ) (w : List ℕ) (v : AskVerb) → ask_verb_of form w ≡ Some v → IsAskVerb form w v
ask_verb_is form w v h =
    choose (IsAskVerb form w) _ ask_verbs.Write v _ h (λ b. (text_is w _ b, tt)) (λ h.
    choose (IsAskVerb form w) _ ask_verbs.Read v _ h (λ b. (text_is w _ b, tt)) (λ h.
    choose (IsAskVerb form w) _ ask_verbs.Sync v _ h (λ b. (text_is w _ b, tt)) (λ h.
    choose (IsAskVerb form w) _ ask_verbs.Cut v _ h (λ b. (text_is w _ b, tt)) (λ h.
    choose (IsAskVerb form w) _ ask_verbs.Patch v _ h (patch_is_asked form w) (name_verb_is form w v)))))

ask_verb_found : (form : ℕ) (ws : List (List ℕ)) (y : AskVerb × List (List ℕ)) → ask_verb_at form ws ≡ Ok y → Begins ws (ask_verb_text y.0) y.1 (IsUnder form y.0)
unfolding ask_verb_at
ask_verb_found form ws y h =
    let p : (w : List ℕ) × (ws ≡ w ∷ y.1) × (ask_verb_of form w ≡ Some y.0) = place_ok (ask_verb_of form) ws y h in
    let k = ask_verb_is form p.0 y.0 p.2 in
    record { text = p.1 ∙ ap (λ (v : List ℕ). v ∷ y.1) k.0; fits = k.1 }

-- Events. A word and the words after it spell an event, if nothing is left.

abbrev pub Tells : ℕ → ℕ → List ℕ → List (List ℕ) → Event × List (List ℕ) → Type 0
Tells form nodes w ws y = y.1 ≡ [] → Spells form nodes (w ∷ ws) y.0

node_only : (w : List ℕ) (ws rest : List (List ℕ)) (n : NodeId) → ws ≡ node_text n ∷ rest → rest ≡ [] → w ∷ ws ≡ w ∷ node_text n ∷ []
node_only w ws rest n h e = ap (λ (vs : List (List ℕ)). w ∷ vs) (h ∙ ap (λ (vs : List (List ℕ)). node_text n ∷ vs) e)

tick_found : (form nodes : ℕ) (ws : List (List ℕ)) (y : Event × List (List ℕ)) → tick_at ws ≡ Ok y → Tells form nodes (codes "tick") ws y
unfolding tick_at words_after
tick_found form nodes ws y h =
    let n = bind_ok _ _ _ h in
    let N = node_found ws n.0 n.1 in
    let e : (events.Tick n.0.0, n.0.1) ≡ y = let k = n.2 in cc in
    subst (Tells form nodes (codes "tick") ws) e (λ done. (N.fits, inl (node_only (codes "tick") ws n.0.1 n.0.0 N.text done)))

crash_found : (form nodes : ℕ) (ws : List (List ℕ)) (y : Event × List (List ℕ)) → crash_at ws ≡ Ok y → Tells form nodes (codes "crash") ws y
unfolding crash_at words_after
crash_found form nodes ws y h =
    let n = bind_ok _ _ _ h in
    let N = node_found ws n.0 n.1 in
    let e : (events.Crash n.0.0, n.0.1) ≡ y = let k = n.2 in cc in
    subst (Tells form nodes (codes "crash") ws) e (λ done. (N.fits, inl (node_only (codes "crash") ws n.0.1 n.0.0 N.text done)))

start_found : (form nodes : ℕ) (ws : List (List ℕ)) (y : Event × List (List ℕ)) → start_at ws ≡ Ok y → Tells form nodes (codes "start") ws y
unfolding start_at words_after
start_found form nodes ws y h =
    let n = bind_ok _ _ _ h in
    let N = node_found ws n.0 n.1 in
    let e : (events.Start n.0.0, n.0.1) ≡ y = let k = n.2 in cc in
    subst (Tells form nodes (codes "start") ws) e (λ done. (N.fits, inl (node_only (codes "start") ws n.0.1 n.0.0 N.text done)))

only_a_number : (w : List ℕ) (ws rest : List (List ℕ)) (k : ℕ) → ws ≡ decimal k ∷ rest → rest ≡ [] → w ∷ ws ≡ w ∷ decimal k ∷ []
only_a_number w ws rest k h e = ap (λ (vs : List (List ℕ)). w ∷ vs) (h ∙ ap (λ (vs : List (List ℕ)). decimal k ∷ vs) e)

deliver_found : (form nodes : ℕ) (ws : List (List ℕ)) (y : Event × List (List ℕ)) → deliver_at ws ≡ Ok y → Tells form nodes (codes "deliver") ws y
unfolding deliver_at words_after
deliver_found form nodes ws y h =
    let n = bind_ok _ _ _ h in
    let N = number_found 1 MOST_NUMBER ws n.0 small_number n.1 in
    let e : (events.Deliver n.0.0, n.0.1) ≡ y = let k = n.2 in cc in
    subst (Tells form nodes (codes "deliver") ws) e (λ done. (N.fits, inl (only_a_number (codes "deliver") ws n.0.1 n.0.0 N.text done)))

lose_found : (form nodes : ℕ) (ws : List (List ℕ)) (y : Event × List (List ℕ)) → lose_at ws ≡ Ok y → Tells form nodes (codes "lose") ws y
unfolding lose_at words_after
lose_found form nodes ws y h =
    let n = bind_ok _ _ _ h in
    let N = number_found 1 MOST_NUMBER ws n.0 small_number n.1 in
    let e : (events.Lose n.0.0, n.0.1) ≡ y = let k = n.2 in cc in
    subst (Tells form nodes (codes "lose") ws) e (λ done. (N.fits, inl (only_a_number (codes "lose") ws n.0.1 n.0.0 N.text done)))

effect_found : (form nodes : ℕ) (ws : List (List ℕ)) (y : Event × List (List ℕ)) → effect_at ws ≡ Ok y → Tells form nodes (codes "effect") ws y
unfolding effect_at words_after
effect_found form nodes ws y h =
    let n = bind_ok _ _ _ h in
    let N = number_found 1 MOST_NUMBER ws n.0 small_number n.1 in
    let e : (events.Effect n.0.0, n.0.1) ≡ y = let k = n.2 in cc in
    subst (Tells form nodes (codes "effect") ws) e (λ done. (N.fits, inl (only_a_number (codes "effect") ws n.0.1 n.0.0 N.text done)))

report_found : (form nodes : ℕ) (ws : List (List ℕ)) (y : Event × List (List ℕ)) → report_at ws ≡ Ok y → Tells form nodes (codes "report") ws y
unfolding report_at words_after
report_found form nodes ws y h =
    let n = bind_ok _ _ _ h in
    let o = bind_ok _ _ _ n.2 in
    let N = number_found 1 MOST_NUMBER ws n.0 small_number n.1 in
    let O = result_found n.0.1 o.0 o.1 in
    let e : (events.Report n.0.0 o.0.0, o.0.1) ≡ y = let k = o.2 in cc in
    subst (Tells form nodes (codes "report") ws) e (λ done. (
      N.fits,
      inl (ap (λ (vs : List (List ℕ)). codes "report" ∷ vs)
          (N.text ∙ ap (λ (vs : List (List ℕ)). decimal n.0.0 ∷ vs) (O.text ∙ ap (λ (vs : List (List ℕ)). result_text o.0.0 ∷ vs) done))),
    ))

link_found : (ws : List (List ℕ)) (y : (NodeId × NodeId) × List (List ℕ)) → link_at ws ≡ Ok y → Two ws (node_text y.0.0) (node_text y.0.1) y.1 (IsNode y.0.0 × IsNode y.0.1)
unfolding link_at
link_found ws y h =
    let n = bind_ok _ _ _ h in
    let m = bind_ok _ _ _ n.2 in
    let N = node_found ws n.0 n.1 in
    let M = node_found n.0.1 m.0 m.1 in
    let e : ((n.0.0, m.0.0), m.0.1) ≡ y = let k = m.2 in cc in
    subst (λ (y : (NodeId × NodeId) × List (List ℕ)). Two ws (node_text y.0.0) (node_text y.0.1) y.1 (IsNode y.0.0 × IsNode y.0.1)) e
    (record { text = N.text ∙ ap (λ (vs : List (List ℕ)). node_text n.0.0 ∷ vs) M.text; fits = (N.fits, M.fits) })

link_only : (w : List ℕ) (ws rest : List (List ℕ)) (n m : NodeId) → ws ≡ node_text n ∷ node_text m ∷ rest → rest ≡ [] → w ∷ ws ≡ w ∷ node_text n ∷ node_text m ∷ []
link_only w ws rest n m h e = ap (λ (vs : List (List ℕ)). w ∷ vs) (h ∙ ap (λ (vs : List (List ℕ)). node_text n ∷ node_text m ∷ vs) e)

cut_link_found : (form nodes : ℕ) (ws : List (List ℕ)) (y : Event × List (List ℕ)) → cut_link_at ws ≡ Ok y → Tells form nodes (codes "cut") ws y
unfolding cut_link_at words_after
cut_link_found form nodes ws y h =
    let l = bind_ok _ _ _ h in
    let L = link_found ws l.0 l.1 in
    let e : (events.Cut l.0.0.0 l.0.0.1, l.0.1) ≡ y = let k = l.2 in cc in
    subst (Tells form nodes (codes "cut") ws) e (λ done. (L.fits, inl (link_only (codes "cut") ws l.0.1 l.0.0.0 l.0.0.1 L.text done)))

heal_found : (form nodes : ℕ) (ws : List (List ℕ)) (y : Event × List (List ℕ)) → heal_at ws ≡ Ok y → Tells form nodes (codes "heal") ws y
unfolding heal_at words_after
heal_found form nodes ws y h =
    let l = bind_ok _ _ _ h in
    let L = link_found ws l.0 l.1 in
    let e : (events.Heal l.0.0.0 l.0.0.1, l.0.1) ≡ y = let k = l.2 in cc in
    subst (Tells form nodes (codes "heal") ws) e (λ done. (L.fits, inl (link_only (codes "heal") ws l.0.1 l.0.0.0 l.0.0.1 L.text done)))

append_done : (ws rest : List (List ℕ)) → rest ≡ [] → ws ++ rest ≡ ws
append_done ws rest e = ap (λ (vs : List (List ℕ)). ws ++ vs) e ∙ append-nil ws

app_found : (form nodes : ℕ) (ws : List (List ℕ)) (y : Event × List (List ℕ)) → app_at form ws ≡ Ok y → Tells form nodes (codes "app") ws y
unfolding app_at words_after
app_found form nodes ws y h =
    let c = bind_ok _ _ _ h in
    let v = bind_ok _ _ _ c.2 in
    let a = bind_ok _ _ _ v.2 in
    let C = client_found ws c.0 c.1 in
    let V = ask_verb_found form c.0.1 v.0 v.1 in
    let A = asked_found form v.0.0 v.0.1 a.0 V.fits a.1 in
    let e : (events.App c.0.0 a.0.0, a.0.1) ≡ y = let k = a.2 in cc in
    subst (Tells form nodes (codes "app") ws) e (λ done. (
      (C.fits, A.fits),
      inl (ap (λ (vs : List (List ℕ)). codes "app" ∷ vs)
          (C.text ∙ ap (λ (vs : List (List ℕ)). client_text c.0.0 ∷ vs) (V.text ∙ A.text ∙ append_done (ask_words a.0.0) a.0.1 done))),
    ))

-- Advances.

pub record AreRead (least n : ℕ) (ws : List (List ℕ)) (y : List ℕ × List (List ℕ)) : Type 0 where
  pub text : ws ≡ in_full y.0 ++ y.1
  pub count : length y.0 ≡ n
  pub fits : AllByRecursion (IsWithin least MOST_NUMBER) y.0

steps_found : (least n : ℕ) (ws : List (List ℕ)) (y : List ℕ × List (List ℕ)) → steps_at least n ws ≡ Ok y → AreRead least n ws y
unfolding steps_at
steps_found least zero ws y h =
    let e : ([], ws) ≡ y = cc in
    subst (AreRead least 0 ws) e (record { text = refl; count = refl; fits = tt })
steps_found least (suc n) ws y h =
    let d = bind_ok _ _ _ h in
    let o = bind_ok _ _ _ d.2 in
    let D = number_found least MOST_NUMBER ws d.0 small_number d.1 in
    let O = steps_found least n d.0.1 o.0 o.1 in
    let e : (d.0.0 ∷ o.0.0, o.0.1) ≡ y = let k = o.2 in cc in
    subst (AreRead least (suc n) ws) e
    (record { text = D.text ∙ ap (λ (vs : List (List ℕ)). decimal d.0.0 ∷ vs) O.text; count = let c = O.count in omega arith; fits = (D.fits, O.fits) })

all_repeated : (least d n : ℕ) → IsWithin least MOST_NUMBER d → AllByRecursion (IsWithin least MOST_NUMBER) (replicate n d)
all_repeated least d zero h = tt
all_repeated least d (suc n) h = (h, all_repeated least d n h)

all_equal : (d n : ℕ) → list_all (λ e. e == d) (replicate n d) ≡ true
all_equal d zero = refl
all_equal d (suc n) = let k = all_equal d n in let t : (d == d) ≡ true = grind (arith, nat_tests) in rw (t, k) refl

short_words : (d n : ℕ) → 1 ≤ n → steps_words (replicate n d) ≡ decimal d ∷ []
short_words d zero some = absurd (omega arith)
short_words d (suc n) some = let k = all_equal d (suc n) in rw k refl

-- the words after an advance, if nothing is left
advance_of : (form nodes d : ℕ) (ws rest : List (List ℕ)) (s : List ℕ × List (List ℕ)) → 1 ≤ nodes → ws ≡ decimal d ∷ rest → IsWithin (least_step form) MOST_NUMBER d → steps_of (least_step form) nodes d ws rest ≡ Ok s
    → s.1 ≡ [] → Spells form nodes (codes "adv" ∷ ws) (events.Advance s.0)
unfolding steps_of words_after
advance_of form nodes d ws [] s some text fits h done =
    let e : (replicate nodes d, []) ≡ s = cc in
    subst (λ (s : List ℕ × List (List ℕ)). Spells form nodes (codes "adv" ∷ ws) (events.Advance s.0)) e
    ((some, length-replicate nodes d, all_repeated (least_step form) d nodes fits), inl (ap (λ (vs : List (List ℕ)). codes "adv" ∷ vs) (text ∙ sym (short_words d nodes some))))
advance_of form nodes d ws (w ∷ rest) s some text fits h done =
    let S = steps_found (least_step form) nodes ws s h in
    ((some, S.count, S.fits), inr (ap (λ (vs : List (List ℕ)). codes "adv" ∷ vs) (S.text ∙ append_done (in_full s.0) s.1 done)))

advance_found : (form nodes : ℕ) (ws : List (List ℕ)) (y : Event × List (List ℕ)) → 1 ≤ nodes → advance_at (least_step form) nodes ws ≡ Ok y → Tells form nodes (codes "adv") ws y
unfolding advance_at
advance_found form nodes ws y some h =
    let d = bind_ok _ _ _ h in
    let s = bind_ok _ _ _ d.2 in
    let D = number_found (least_step form) MOST_NUMBER ws d.0 small_number d.1 in
    let e : (events.Advance s.0.0, s.0.1) ≡ y = let k = s.2 in cc in
    subst (Tells form nodes (codes "adv") ws) e (advance_of form nodes d.0.0 ws d.0.1 s.0 some D.text D.fits s.1)

abbrev pub verb_text : Verb → List ℕ
verb_text verbs.Adv = codes "adv"
verb_text verbs.Tick = codes "tick"
verb_text verbs.App = codes "app"
verb_text verbs.Deliver = codes "deliver"
verb_text verbs.Lose = codes "lose"
verb_text verbs.Cut = codes "cut"
verb_text verbs.Heal = codes "heal"
verb_text verbs.Effect = codes "effect"
verb_text verbs.Report = codes "report"
verb_text verbs.Crash = codes "crash"
verb_text verbs.Start = codes "start"

event_found : (form nodes : ℕ) (v : Verb) (ws : List (List ℕ)) (y : Event × List (List ℕ)) → 1 ≤ nodes → event_at form nodes v ws ≡ Ok y → Tells form nodes (verb_text v) ws y
unfolding event_at
event_found form nodes verbs.Adv ws y some h = advance_found form nodes ws y some h
event_found form nodes verbs.Tick ws y some h = tick_found form nodes ws y h
event_found form nodes verbs.App ws y some h = app_found form nodes ws y h
event_found form nodes verbs.Deliver ws y some h = deliver_found form nodes ws y h
event_found form nodes verbs.Lose ws y some h = lose_found form nodes ws y h
event_found form nodes verbs.Cut ws y some h = cut_link_found form nodes ws y h
event_found form nodes verbs.Heal ws y some h = heal_found form nodes ws y h
event_found form nodes verbs.Effect ws y some h = effect_found form nodes ws y h
event_found form nodes verbs.Report ws y some h = report_found form nodes ws y h
event_found form nodes verbs.Crash ws y some h = crash_found form nodes ws y h
event_found form nodes verbs.Start ws y some h = start_found form nodes ws y h

abbrev pub IsVerb : List ℕ → Verb → Type 0
IsVerb w v = w ≡ verb_text v

crash_or_start_is : (w : List ℕ) (v : Verb) → crash_or_start w ≡ Some v → IsVerb w v
crash_or_start_is w v h =
    choose (IsVerb w) _ verbs.Crash v _ h (text_is w _) (λ h.
    choose (IsVerb w) _ verbs.Start v _ h (text_is w _) (λ h. absurd (cc)))

link_or_later_is : (w : List ℕ) (v : Verb) → link_or_later w ≡ Some v → IsVerb w v
link_or_later_is w v h =
    choose (IsVerb w) _ verbs.Cut v _ h (text_is w _) (λ h.
    choose (IsVerb w) _ verbs.Heal v _ h (text_is w _) (λ h.
    choose (IsVerb w) _ verbs.Effect v _ h (text_is w _) (λ h.
    choose (IsVerb w) _ verbs.Report v _ h (text_is w _) (crash_or_start_is w v))))

verb_is : (w : List ℕ) (v : Verb) → verb_of w ≡ Some v → IsVerb w v
verb_is w v h =
    choose (IsVerb w) _ verbs.Adv v _ h (text_is w _) (λ h.
    choose (IsVerb w) _ verbs.Tick v _ h (text_is w _) (λ h.
    choose (IsVerb w) _ verbs.App v _ h (text_is w _) (λ h.
    choose (IsVerb w) _ verbs.Deliver v _ h (text_is w _) (λ h.
    choose (IsVerb w) _ verbs.Lose v _ h (text_is w _) (link_or_later_is w v)))))

or_wrong_is : (o : Option Verb) (ws : List (List ℕ)) (v : Verb) → or_wrong o ws ≡ Ok v → o ≡ Some v
or_wrong_is None ws v h = absurd (cc)
or_wrong_is (Some u) ws v h = let e : u ≡ v = cc in ap (λ (v : Verb). Some v) e

verb_in_is : (w : List ℕ) (ws : List (List ℕ)) (v : Verb) → verb_in w ws ≡ Ok v → IsVerb w v
unfolding verb_in
verb_in_is w ws v h = verb_is w v (or_wrong_is (verb_of w) ws v h)

pub ends_is : (ws : List (List ℕ)) (u : Unit {0}) → ends ws ≡ Ok u → ws ≡ []
unfolding ends
ends_is [] u h = refl
ends_is (w ∷ ws) u h = absurd (cc)

-- Lines.

never : (r : Result (Option Event) Fault) (e : Event) → r ≡ Ok None → r ≡ Ok (Some e) → ⊥
never (Ok None) e h k = cc
never (Ok (Some x)) e h k = cc
never (Err f) e h k = cc

end_has_no_event : (ws : List (List ℕ)) (e : Event) → end_of ws ≡ Ok (Some e) → ⊥
unfolding end_of
end_has_no_event ws e h = let u = bind_ok {A = Unit {0}} (ends ws) (λ none. Ok None) (Some e) h in never (Ok None) e refl u.2

event_of_found : (form nodes : ℕ) (w : List ℕ) (all ws : List (List ℕ)) (e : Event) → 1 ≤ nodes → event_of form nodes w all ws ≡ Ok (Some e) → Spells form nodes (w ∷ ws) e
unfolding event_of
event_of_found form nodes w all ws e some h =
    let v = bind_ok _ _ _ h in
    let y = bind_ok _ _ _ v.2 in
    let u = bind_ok _ _ _ y.2 in
    let V = verb_in_is w all v.0 v.1 in
    let S = event_found form nodes v.0 ws y.0 some y.1 (ends_is y.0.1 u.0 u.1) in
    let k : y.0.0 ≡ e = let j = u.2 in cc in
    subst (Spells form nodes (w ∷ ws)) k (subst (λ (t : List ℕ). Spells form nodes (t ∷ ws) y.0.0) (sym V) S)

pub read_is_spelled : (form nodes : ℕ) (ws : List (List ℕ)) (e : Event) → 1 ≤ nodes → line_event form nodes ws ≡ Ok (Some e) → Spells form nodes ws e
unfolding line_event
read_is_spelled form nodes [] e some h = absurd (cc)
read_is_spelled form nodes (w ∷ ws) e some h =
    elim (chosen (bytes_eq w (codes "end")) _ _ _ h) as (λ q. Spells form nodes (w ∷ ws) e) [
      | inl p ↦ absurd (end_has_no_event ws e p.1)
      | inr p ↦ event_of_found form nodes w (w ∷ ws) ws e some p.1
    ]

event_is_no_end : (form nodes : ℕ) (w : List ℕ) (all ws : List (List ℕ)) → event_of form nodes w all ws ≡ Ok None → ⊥
unfolding event_of
event_is_no_end form nodes w all ws h =
    let v : (v : Verb) × (verb_in w all ≡ Ok v) × ((event_at form nodes v ws >>= λ e. ends e.1 >>= λ none. Ok (Some e.0)) ≡ Ok None) = bind_ok _ _ _ h in
    let y : (y : Event × List (List ℕ)) × (event_at form nodes v.0 ws ≡ Ok y) × ((ends y.1 >>= λ none. Ok (Some y.0)) ≡ Ok None) = bind_ok _ _ _ v.2 in
    let u = bind_ok {A = Unit {0}} (ends y.0.1) (λ none. Ok (Some y.0.0)) None y.2 in
    never (Ok (Some y.0.0)) y.0.0 u.2 refl

end_is_alone : (ws : List (List ℕ)) → end_of ws ≡ Ok None → ws ≡ []
unfolding end_of
end_is_alone ws h = let u = bind_ok _ _ _ h in ends_is ws u.0 u.1

pub end_is_spelled : (form nodes : ℕ) (ws : List (List ℕ)) → line_event form nodes ws ≡ Ok None → ws ≡ codes "end" ∷ []
unfolding line_event
end_is_spelled form nodes [] h = absurd (cc)
end_is_spelled form nodes (w ∷ ws) h =
    elim (chosen (bytes_eq w (codes "end")) _ _ _ h) as (λ q. w ∷ ws ≡ codes "end" ∷ []) [
      | inl p ↦ ap (λ (t : List ℕ). t ∷ ws) (text_is w (codes "end") p.0) ∙ ap (λ (vs : List (List ℕ)). codes "end" ∷ vs) (end_is_alone ws p.1)
      | inr p ↦ absurd (event_is_no_end form nodes w (w ∷ ws) ws p.1)
    ]
