-- Messages stay as they are when more bytes come; the message of the new bytes; look-ups by number.
use Rattle.std.proofs.Common.{◌≡◌, ℕ, zero, suc, ◌+◌, ◌≤◌, true, false, List, [], ◌∷◌, ◌++◌, length, take, drop, set, refl, sym, ap, subst, ◌∙◌, arith}
use Rattle.std.specs.Prelude.{map, pred, slice_get, Option, Some, None, option_map}
use Rattle.std.proofs.lemmas.List.{take-append-le, drop-append-le, length-append, map-append, length-drop, append-nil}
use Rattle.std.proofs.lemmas.Option.{slice_get-map}
use Rattle.std.proofs.Math.Seq.{drop-append_seam, take-append_seam}
use Rattle.st_codec.specs.Grammar.{Spells}
use Rattle.st_codec.specs.Spelling.{spelling}
use Rattle.st_codec.proofs.ExactMessage.{decoded_again}
use Rattle.st_messages.specs.declared.message.Message.{Message}
use Rattle.st_messages.specs.Ranges.{fits}
use Rattle.st_rules.specs.declared.world.SentMessage.{SentMessage}
use Rattle.st_rules.specs.World.{numbered}
use Rattle.st_world_parts.specs.declared.places.SentPlace.{SentPlace}
use Rattle.st_world_parts.specs.Pieces.{read_as, message_in, piece, sent_at, messages_at, IsPlace, ArePlaces, IsSpelled, head_at, head_of, lost_place, with_lost_at, with_lost, lost_among}

-- bytes that spell a message are read as it
pub read_again : (bytes : List ℕ) (m : Message) → Spells bytes m → message_in bytes ≡ m
unfolding message_in
read_again bytes m p = ap read_as (decoded_again bytes m p)

-- the bytes of a place stay when more come
piece_more : (bytes more : List ℕ) (p : SentPlace) → p.start + p.len ≤ length bytes → piece (bytes ++ more) p ≡ piece bytes p
unfolding piece
piece_more bytes more p h =
    let low : p.start ≤ length bytes = omega arith in
    let room : p.len ≤ length (drop p.start bytes) = omega (arith, length-drop p.start bytes) in
    ap (take p.len) (drop-append-le p.start bytes more low) ∙ take-append-le p.len (drop p.start bytes) more room

place_more : (bytes more : List ℕ) (p : SentPlace) → IsPlace bytes p → IsPlace (bytes ++ more) p
place_more bytes more p h =
    let same : piece bytes p ≡ piece (bytes ++ more) p = sym (piece_more bytes more p h.within) in
    record {
      within = omega (arith, h.within, length-append bytes more);
      spells = subst IsSpelled same h.spells;
      from = subst (λ (b : List ℕ). p.from ≡ (message_in b).header.from) same h.from;
      to = subst (λ (b : List ℕ). p.to ≡ (message_in b).header.to) same h.to;
    }

pub places_more : (bytes more : List ℕ) (ps : List SentPlace) → ArePlaces bytes ps → ArePlaces (bytes ++ more) ps
places_more bytes more [] h = tt
places_more bytes more (p ∷ ps) h = (place_more bytes more p h.0, places_more bytes more ps h.1)

pub messages_more : (bytes more : List ℕ) (ps : List SentPlace) → ArePlaces bytes ps → messages_at (bytes ++ more) ps ≡ messages_at bytes ps
messages_more bytes more [] h = refl
messages_more bytes more (p ∷ ps) h =
    λ i. record { message = message_in (piece_more bytes more p h.0.within i); lost = p.lost } ∷ messages_more bytes more ps h.1 i

-- the bytes that came last
piece_last : (bytes more : List ℕ) (p : SentPlace) → p.start ≡ length bytes → p.len ≡ length more → piece (bytes ++ more) p ≡ more
unfolding piece
piece_last bytes more p s l =
    (λ i. take (l i) (drop (s i) (bytes ++ more)))
    ∙ ap (take (length more)) (drop-append_seam bytes more)
    ∙ ap (take (length more)) (sym (append-nil more))
    ∙ take-append_seam more []

-- the place of a message that was sent
pub record IsNew (bytes : List ℕ) (m : Message) (p : SentPlace) : Type 0 where
  pub fits : fits m ≡ true
  pub start : p.start ≡ length bytes
  pub len : p.len ≡ length (spelling m)
  pub from : p.from ≡ m.header.from
  pub to : p.to ≡ m.header.to
  pub lost : p.lost ≡ false

new_message : (bytes : List ℕ) (m : Message) (p : SentPlace) → IsNew bytes m p → message_in (piece (bytes ++ spelling m) p) ≡ m
new_message bytes m p h = read_again (piece (bytes ++ spelling m) p) m (record { text = piece_last bytes (spelling m) p h.start h.len; ranges = h.fits })

new_place : (bytes : List ℕ) (m : Message) (p : SentPlace) → IsNew bytes m p → IsPlace (bytes ++ spelling m) p
new_place bytes m p h =
    let is : m ≡ message_in (piece (bytes ++ spelling m) p) = sym (new_message bytes m p h) in
    record {
      within = omega (arith, h.start, h.len, length-append bytes (spelling m));
      spells = subst (Spells (piece (bytes ++ spelling m) p)) is (record { text = piece_last bytes (spelling m) p h.start h.len; ranges = h.fits });
      from = h.from ∙ ap (λ (x : Message). x.header.from) is;
      to = h.to ∙ ap (λ (x : Message). x.header.to) is;
    }

places_and : (bytes : List ℕ) (ps : List SentPlace) (p : SentPlace) → ArePlaces bytes ps → IsPlace bytes p → ArePlaces bytes (ps ++ p ∷ [])
places_and bytes [] p h k = (k, tt)
places_and bytes (q ∷ ps) p h k = (h.0, places_and bytes ps p h.1 k)

-- the places with one more message
pub places_sent : (bytes : List ℕ) (ps : List SentPlace) (m : Message) (p : SentPlace) → ArePlaces bytes ps → IsNew bytes m p → ArePlaces (bytes ++ spelling m) (ps ++ p ∷ [])
places_sent bytes ps m p h n = places_and (bytes ++ spelling m) ps p (places_more bytes (spelling m) ps h) (new_place bytes m p n)

-- the messages with one more
pub messages_sent : (bytes : List ℕ) (ps : List SentPlace) (m : Message) (p : SentPlace) → ArePlaces bytes ps → IsNew bytes m p →
    messages_at (bytes ++ spelling m) (ps ++ p ∷ []) ≡ messages_at bytes ps ++ record { message = m; lost = false } ∷ []
messages_sent bytes ps m p h n =
    map-append (sent_at (bytes ++ spelling m)) ps (p ∷ [])
    ∙ (λ i. messages_more bytes (spelling m) ps h i ++ record { message = new_message bytes m p n i; lost = n.lost i } ∷ [])

-- By number.
pub numbered_at : (bytes : List ℕ) (ps : List SentPlace) (k : ℕ) → numbered (messages_at bytes ps) k ≡ option_map (sent_at bytes) (numbered ps k)
numbered_at bytes ps zero = refl
numbered_at bytes ps (suc n) = slice_get-map (sent_at bytes) ps n

got : (bytes : List ℕ) (ps : List SentPlace) (n : ℕ) (p : SentPlace) → ArePlaces bytes ps → slice_get ps n ≡ Some p → IsPlace bytes p
got bytes [] n p h e = absurd (cc)
got bytes (q ∷ ps) zero p h e = let is : q ≡ p = cc in subst (IsPlace bytes) is h.0
got bytes (q ∷ ps) (suc n) p h e = got bytes ps n p h.1 e

-- the place of a number is one of the buffer
pub place_known : (bytes : List ℕ) (ps : List SentPlace) (k : ℕ) (p : SentPlace) → ArePlaces bytes ps → numbered ps k ≡ Some p → IsPlace bytes p
place_known bytes ps zero p h e = absurd (cc)
place_known bytes ps (suc n) p h e = got bytes ps n p h e

same_head : (bytes : List ℕ) (o : Option SentPlace) → ((p : SentPlace) → o ≡ Some p → IsPlace bytes p) → option_map head_at o ≡ option_map head_of (option_map (sent_at bytes) o)
same_head bytes None h = refl
same_head bytes (Some p) h = let k = h p refl in λ i. Some (record { from = k.from i; to = k.to i; lost = p.lost })

-- what is kept of a message's nodes is what it has
pub heads_are : (bytes : List ℕ) (ps : List SentPlace) (k : ℕ) → ArePlaces bytes ps → option_map head_at (numbered ps k) ≡ option_map head_of (numbered (messages_at bytes ps) k)
heads_are bytes ps k h = same_head bytes (numbered ps k) (λ p e. place_known bytes ps k p h e) ∙ ap (option_map head_of) (sym (numbered_at bytes ps k))

-- Loss.
map_set : {A B : Type 0} (f : A → B) (xs : List A) (i : ℕ) (x : A) → map f (set xs i x) ≡ set (map f xs) i (f x)
map_set f [] i x = refl
map_set f (y ∷ ys) zero x = refl
map_set f (y ∷ ys) (suc i) x = ap (λ l. f y ∷ l) (map_set f ys i x)

places_set : (bytes : List ℕ) (ps : List SentPlace) (i : ℕ) (p : SentPlace) → ArePlaces bytes ps → IsPlace bytes p → ArePlaces bytes (set ps i p)
places_set bytes [] i p h k = tt
places_set bytes (q ∷ ps) zero p h k = (k, h.1)
places_set bytes (q ∷ ps) (suc i) p h k = (h.0, places_set bytes ps i p h.1 k)

places_lost_at : (bytes : List ℕ) (ps : List SentPlace) (k : ℕ) (o : Option SentPlace) → ArePlaces bytes ps → ((p : SentPlace) → o ≡ Some p → IsPlace bytes p) → ArePlaces bytes (with_lost_at k o ps)
unfolding piece
places_lost_at bytes ps k None h at = h
places_lost_at bytes ps k (Some p) h at = let q = at p refl in places_set bytes ps (pred k) (lost_place p) h (record { within = q.within; spells = q.spells; from = q.from; to = q.to })

-- a loss changes no place
pub places_lost : (bytes : List ℕ) (ps : List SentPlace) (k : ℕ) → ArePlaces bytes ps → ArePlaces bytes (with_lost k ps)
places_lost bytes ps k h = places_lost_at bytes ps k (numbered ps k) h (λ p e. place_known bytes ps k p h e)

messages_lost_at : (bytes : List ℕ) (ps : List SentPlace) (k : ℕ) (o : Option SentPlace) → messages_at bytes (with_lost_at k o ps) ≡ lost_among k (option_map (sent_at bytes) o) (messages_at bytes ps)
unfolding piece
messages_lost_at bytes ps k None = refl
messages_lost_at bytes ps k (Some p) = map_set (sent_at bytes) ps (pred k) (lost_place p)

-- the messages with this one lost
pub messages_lost : (bytes : List ℕ) (ps : List SentPlace) (k : ℕ) → messages_at bytes (with_lost k ps) ≡ lost_among k (numbered (messages_at bytes ps) k) (messages_at bytes ps)
messages_lost bytes ps k = messages_lost_at bytes ps k (numbered ps k) ∙ ap (λ o. lost_among k o (messages_at bytes ps)) (sym (numbered_at bytes ps k))

-- what a look-up of the places says of the messages
pub seen_through : {A : Type 0} (f : SentMessage → A) (bytes : List ℕ) (ps : List SentPlace) (k : ℕ) (o : Option SentPlace) → o ≡ numbered ps k →
    option_map (λ p. f (sent_at bytes p)) o ≡ option_map f (numbered (messages_at bytes ps) k)
seen_through f bytes ps k o h = twice o ∙ ap (λ x. option_map f (option_map (sent_at bytes) x)) h ∙ ap (option_map f) (sym (numbered_at bytes ps k))
  where
    twice : (x : Option SentPlace) → option_map (λ p. f (sent_at bytes p)) x ≡ option_map f (option_map (sent_at bytes) x)
    twice None = refl
    twice (Some p) = refl
