-- The text of each call, read back: its tag and its numbers. Assumes nothing.
use mathlib.Core.Path.{◌≡◌, refl, sym, ap, subst, ◌∙◌}
use mathlib.Core.List.{List, [], ◌∷◌, ◌++◌, append_assoc}
use Prim.Native.Nat.{ℕ, ◌+◌, ◌^◌, ◌<◌, min}
use native.Mathlib.Omega.{arith}
use lib.ListN.{length, set}
use Rattle.forms.specs.Forms.{kind_of}
use Rattle.spelling.specs.Words.{key_of, name_of, separator}
use Rattle.spelling.specs.Text.{number_text, item_text, line_text}
use Rattle.notation.specs.declared.Scan.{Scan}
use Rattle.notation.specs.declared.Read.TheVariants.{Called}
use Rattle.notation.specs.Scans.{begin}
use Rattle.notation.specs.Reading.{ended, step, scan, code_of, call_of, outcome, read_line, limit_of}
use Rattle.notation.specs.Computing.{computing}
use Rattle.notation.proofs.Numbers.{mid, Settles, Before, Read-as, scan-append, read_count, read-amount, read-price}
use Rattle.notation.proofs.Sets.{read_set}
use Rattle.notation.proofs.Keys.{end_step, key-1-0, key-1-1, key-1-2, key-1-3, key-1-4, key-1-5, key-1-6, key-1-7, key-2-0, key-2-1, key-2-2, key-3-0, key-3-1, key-3-2, key-3-3, key-3-4, key-3-5, key-4-0, key-4-1, key-4-2, key-4-3, key-5-0, key-5-1, key-5-2, key-5-3, key-7-0, key-7-1, key-8-0, key-8-1, key-10-0, key-10-1, key-11-0, key-12-0, key-12-1, key-14-0, key-14-1, key-14-2, key-15-0, key-15-1}

-- ---- a line, one number at a time

-- the numbers before any is read
abbrev zeros : List ℕ
zeros = 0 ∷ 0 ∷ 0 ∷ 0 ∷ 0 ∷ 0 ∷ 0 ∷ 0 ∷ []

-- what is read of a text and a number behind it
item-scan : (text : List ℕ) (tag item n : ℕ)
    → scan begin 0 (text ++ item_text tag item n)
    ≡ scan (scan (scan begin 0 text) (0 + length text) (separator (key_of tag item))) (0 + length text + length (separator (key_of tag item))) (number_text (kind_of tag item) n)
item-scan text tag item n =
    scan-append begin 0 text (item_text tag item n)
    ∙ scan-append (scan begin 0 text) (0 + length text) (separator (key_of tag item)) (number_text (kind_of tag item) n)

module _ (text : List ℕ) (tag item : ℕ) (ns : List ℕ) (n : ℕ)
    (b : Before (scan (scan begin 0 text) (0 + length text) (separator (key_of tag item))) tag item ns) where
  abbrev at : ℕ
  at = 0 + length text + length (separator (key_of tag item))

  then-count : (kind : ℕ) → kind_of tag item ≡ kind → kind < 3 → n < limit_of kind → n < 65536 → Read-as tag item ns (scan begin 0 (text ++ item_text tag item n)) n
  then-count kind k h l m = subst (λ (t : Scan). Read-as tag item ns t n) (sym (item-scan text tag item n)) (read_count tag item ns _ at kind n b k h l m)

  then-amount : kind_of tag item ≡ 4 → n < 4294967296 → Read-as tag item ns (scan begin 0 (text ++ item_text tag item n)) n
  then-amount k l = subst (λ (t : Scan). Read-as tag item ns t n) (sym (item-scan text tag item n)) (read-amount tag item ns _ at n b k l)

  then-price : kind_of tag item ≡ 5 → n < 4294967296 → Read-as tag item ns (scan begin 0 (text ++ item_text tag item n)) n
  then-price k l = subst (λ (t : Scan). Read-as tag item ns t n) (sym (item-scan text tag item n)) (read-price tag item ns _ at n b k l)

  then-set : kind_of tag item ≡ 3 → n < 2 ^ 32 → Settles (scan begin 0 (text ++ item_text tag item n)) tag (min (item + 1) 8) (set ns item n)
  then-set k l = subst (λ (t : Scan). Settles t tag (min (item + 1) 8) (set ns item n)) (sym (item-scan text tag item n)) (read_set tag item ns k _ at n b l)

-- the line's end, where the call has all its numbers
line-end : (text : List ℕ) (tag item : ℕ) (ns : List ℕ) → Settles (scan begin 0 text) tag item ns
    → ((start value at at' : ℕ) → outcome (step (ended (mid tag item start value ns) at) 10 at') ≡ Called (call_of tag item ns))
    → read_line (text ++ (10 ∷ [])) ≡ Called (call_of tag item ns)
unfolding read_line scan
line-end text tag item ns h whole =
    ap (λ (t : Scan). outcome (step t 10 (length (text ++ (10 ∷ [])))))
    (scan-append begin 0 text (10 ∷ []) ∙ end_step (scan begin 0 text) tag item ns h (0 + length text))
    ∙ whole h.start h.value (0 + length text) (length (text ++ (10 ∷ [])))

-- texts one behind the other
group-1 : (a b z : List ℕ) → a ++ (b ++ z) ≡ (a ++ b) ++ z
group-1 a b z = simp append_assoc

group-2 : (a b c z : List ℕ) → a ++ (b ++ (c ++ z)) ≡ ((a ++ b) ++ c) ++ z
group-2 a b c z = simp append_assoc

group-3 : (a b c d z : List ℕ) → a ++ (b ++ (c ++ (d ++ z))) ≡ (((a ++ b) ++ c) ++ d) ++ z
group-3 a b c d z = simp append_assoc

group-4 : (a b c d e z : List ℕ) → a ++ (b ++ (c ++ (d ++ (e ++ z)))) ≡ ((((a ++ b) ++ c) ++ d) ++ e) ++ z
group-4 a b c d e z = simp append_assoc

group-6 : (a b c d e f g z : List ℕ) → a ++ (b ++ (c ++ (d ++ (e ++ (f ++ (g ++ z)))))) ≡ ((((((a ++ b) ++ c) ++ d) ++ e) ++ f) ++ g) ++ z
group-6 a b c d e f g z = simp append_assoc

group-8 : (a b c d e f g h i z : List ℕ) → a ++ (b ++ (c ++ (d ++ (e ++ (f ++ (g ++ (h ++ (i ++ z)))))))) ≡ ((((((((a ++ b) ++ c) ++ d) ++ e) ++ f) ++ g) ++ h) ++ i) ++ z
group-8 a b c d e f g h i z = simp append_assoc

-- ---- each call

pub line-head : (a : ℕ) (b : ℕ) (c : ℕ) (d : ℕ) (e : ℕ) (f : ℕ) (g : ℕ) (h : ℕ) → a < 2 ^ 8 → b < 2 ^ 16 → c < 2 ^ 32 → d < 4294967296 → e < 4294967296 → f < 4294967296 → g < 4294967296 → h < 4294967296 → read_line (line_text 1 (a ∷ b ∷ c ∷ d ∷ e ∷ f ∷ g ∷ h ∷ [])) ≡ Called (call_of 1 8 (a ∷ b ∷ c ∷ d ∷ e ∷ f ∷ g ∷ h ∷ []))
unfolding computing
line-head a b c d e f g h ha hb hc hd he hf hg hh =
    let r0 : Settles (scan begin 0 (name_of 1)) 1 0 zeros = record { start = 0; value = code_of (name_of 1); is = refl; active = refl } in
    let t0 = name_of 1 in
    let p1 = then-count t0 1 0 (0 ∷ 0 ∷ 0 ∷ 0 ∷ 0 ∷ 0 ∷ 0 ∷ 0 ∷ []) a (key-1-0 (scan begin 0 t0) (0 ∷ 0 ∷ 0 ∷ 0 ∷ 0 ∷ 0 ∷ 0 ∷ 0 ∷ []) (0 + length t0) r0) 1 refl (omega arith) ha (omega arith) in
    let t1 = (t0 ++ item_text 1 0 a) in
    let p2 = then-count t1 1 1 (a ∷ 0 ∷ 0 ∷ 0 ∷ 0 ∷ 0 ∷ 0 ∷ 0 ∷ []) b (key-1-1 (scan begin 0 t1) (a ∷ 0 ∷ 0 ∷ 0 ∷ 0 ∷ 0 ∷ 0 ∷ 0 ∷ []) (0 + length t1) p1.settles) 2 refl (omega arith) hb (omega arith) in
    let t2 = (t1 ++ item_text 1 1 b) in
    let p3 = then-set t2 1 2 (a ∷ b ∷ 0 ∷ 0 ∷ 0 ∷ 0 ∷ 0 ∷ 0 ∷ []) c (key-1-2 (scan begin 0 t2) (a ∷ b ∷ 0 ∷ 0 ∷ 0 ∷ 0 ∷ 0 ∷ 0 ∷ []) (0 + length t2) p2.settles) refl hc in
    let t3 = (t2 ++ item_text 1 2 c) in
    let p4 = then-amount t3 1 3 (a ∷ b ∷ c ∷ 0 ∷ 0 ∷ 0 ∷ 0 ∷ 0 ∷ []) d (key-1-3 (scan begin 0 t3) (a ∷ b ∷ c ∷ 0 ∷ 0 ∷ 0 ∷ 0 ∷ 0 ∷ []) (0 + length t3) p3) refl hd in
    let t4 = (t3 ++ item_text 1 3 d) in
    let p5 = then-amount t4 1 4 (a ∷ b ∷ c ∷ d ∷ 0 ∷ 0 ∷ 0 ∷ 0 ∷ []) e (key-1-4 (scan begin 0 t4) (a ∷ b ∷ c ∷ d ∷ 0 ∷ 0 ∷ 0 ∷ 0 ∷ []) (0 + length t4) p4.settles) refl he in
    let t5 = (t4 ++ item_text 1 4 e) in
    let p6 = then-amount t5 1 5 (a ∷ b ∷ c ∷ d ∷ e ∷ 0 ∷ 0 ∷ 0 ∷ []) f (key-1-5 (scan begin 0 t5) (a ∷ b ∷ c ∷ d ∷ e ∷ 0 ∷ 0 ∷ 0 ∷ []) (0 + length t5) p5.settles) refl hf in
    let t6 = (t5 ++ item_text 1 5 f) in
    let p7 = then-amount t6 1 6 (a ∷ b ∷ c ∷ d ∷ e ∷ f ∷ 0 ∷ 0 ∷ []) g (key-1-6 (scan begin 0 t6) (a ∷ b ∷ c ∷ d ∷ e ∷ f ∷ 0 ∷ 0 ∷ []) (0 + length t6) p6.settles) refl hg in
    let t7 = (t6 ++ item_text 1 6 g) in
    let p8 = then-amount t7 1 7 (a ∷ b ∷ c ∷ d ∷ e ∷ f ∷ g ∷ 0 ∷ []) h (key-1-7 (scan begin 0 t7) (a ∷ b ∷ c ∷ d ∷ e ∷ f ∷ g ∷ 0 ∷ []) (0 + length t7) p7.settles) refl hh in
    ap read_line (group-8 (name_of 1) (item_text 1 0 a) (item_text 1 1 b) (item_text 1 2 c) (item_text 1 3 d) (item_text 1 4 e) (item_text 1 5 f) (item_text 1 6 g) (item_text 1 7 h) (10 ∷ []))
    ∙ line-end (t7 ++ item_text 1 7 h) 1 8 (a ∷ b ∷ c ∷ d ∷ e ∷ f ∷ g ∷ h ∷ []) p8.settles (λ start value at at'. refl)

pub line-pool : (a : ℕ) (b : ℕ) (c : ℕ) → a < 2 ^ 8 → b < 2 ^ 16 → c < 2 ^ 8 → read_line (line_text 2 (a ∷ b ∷ c ∷ [])) ≡ Called (call_of 2 3 (a ∷ b ∷ c ∷ 0 ∷ 0 ∷ 0 ∷ 0 ∷ 0 ∷ []))
unfolding computing
line-pool a b c ha hb hc =
    let r0 : Settles (scan begin 0 (name_of 2)) 2 0 zeros = record { start = 0; value = code_of (name_of 2); is = refl; active = refl } in
    let t0 = name_of 2 in
    let p1 = then-count t0 2 0 (0 ∷ 0 ∷ 0 ∷ 0 ∷ 0 ∷ 0 ∷ 0 ∷ 0 ∷ []) a (key-2-0 (scan begin 0 t0) (0 ∷ 0 ∷ 0 ∷ 0 ∷ 0 ∷ 0 ∷ 0 ∷ 0 ∷ []) (0 + length t0) r0) 1 refl (omega arith) ha (omega arith) in
    let t1 = (t0 ++ item_text 2 0 a) in
    let p2 = then-count t1 2 1 (a ∷ 0 ∷ 0 ∷ 0 ∷ 0 ∷ 0 ∷ 0 ∷ 0 ∷ []) b (key-2-1 (scan begin 0 t1) (a ∷ 0 ∷ 0 ∷ 0 ∷ 0 ∷ 0 ∷ 0 ∷ 0 ∷ []) (0 + length t1) p1.settles) 2 refl (omega arith) hb (omega arith) in
    let t2 = (t1 ++ item_text 2 1 b) in
    let p3 = then-count t2 2 2 (a ∷ b ∷ 0 ∷ 0 ∷ 0 ∷ 0 ∷ 0 ∷ 0 ∷ []) c (key-2-2 (scan begin 0 t2) (a ∷ b ∷ 0 ∷ 0 ∷ 0 ∷ 0 ∷ 0 ∷ 0 ∷ []) (0 + length t2) p2.settles) 1 refl (omega arith) hc (omega arith) in
    ap read_line (group-3 (name_of 2) (item_text 2 0 a) (item_text 2 1 b) (item_text 2 2 c) (10 ∷ []))
    ∙ line-end (t2 ++ item_text 2 2 c) 2 3 (a ∷ b ∷ c ∷ 0 ∷ 0 ∷ 0 ∷ 0 ∷ 0 ∷ []) p3.settles (λ start value at at'. refl)

pub line-member : (a : ℕ) (b : ℕ) (c : ℕ) (d : ℕ) (e : ℕ) (f : ℕ) → a < 2 ^ 8 → b < 4294967296 → c < 2 ^ 16 → d < 2 ^ 16 → e < 2 ^ 16 → f < 2 ^ 16 → read_line (line_text 3 (a ∷ b ∷ c ∷ d ∷ e ∷ f ∷ [])) ≡ Called (call_of 3 6 (a ∷ b ∷ c ∷ d ∷ e ∷ f ∷ 0 ∷ 0 ∷ []))
unfolding computing
line-member a b c d e f ha hb hc hd he hf =
    let r0 : Settles (scan begin 0 (name_of 3)) 3 0 zeros = record { start = 0; value = code_of (name_of 3); is = refl; active = refl } in
    let t0 = name_of 3 in
    let p1 = then-count t0 3 0 (0 ∷ 0 ∷ 0 ∷ 0 ∷ 0 ∷ 0 ∷ 0 ∷ 0 ∷ []) a (key-3-0 (scan begin 0 t0) (0 ∷ 0 ∷ 0 ∷ 0 ∷ 0 ∷ 0 ∷ 0 ∷ 0 ∷ []) (0 + length t0) r0) 1 refl (omega arith) ha (omega arith) in
    let t1 = (t0 ++ item_text 3 0 a) in
    let p2 = then-amount t1 3 1 (a ∷ 0 ∷ 0 ∷ 0 ∷ 0 ∷ 0 ∷ 0 ∷ 0 ∷ []) b (key-3-1 (scan begin 0 t1) (a ∷ 0 ∷ 0 ∷ 0 ∷ 0 ∷ 0 ∷ 0 ∷ 0 ∷ []) (0 + length t1) p1.settles) refl hb in
    let t2 = (t1 ++ item_text 3 1 b) in
    let p3 = then-count t2 3 2 (a ∷ b ∷ 0 ∷ 0 ∷ 0 ∷ 0 ∷ 0 ∷ 0 ∷ []) c (key-3-2 (scan begin 0 t2) (a ∷ b ∷ 0 ∷ 0 ∷ 0 ∷ 0 ∷ 0 ∷ 0 ∷ []) (0 + length t2) p2.settles) 2 refl (omega arith) hc (omega arith) in
    let t3 = (t2 ++ item_text 3 2 c) in
    let p4 = then-count t3 3 3 (a ∷ b ∷ c ∷ 0 ∷ 0 ∷ 0 ∷ 0 ∷ 0 ∷ []) d (key-3-3 (scan begin 0 t3) (a ∷ b ∷ c ∷ 0 ∷ 0 ∷ 0 ∷ 0 ∷ 0 ∷ []) (0 + length t3) p3.settles p3.plain) 2 refl (omega arith) hd (omega arith) in
    let t4 = (t3 ++ item_text 3 3 d) in
    let p5 = then-count t4 3 4 (a ∷ b ∷ c ∷ d ∷ 0 ∷ 0 ∷ 0 ∷ 0 ∷ []) e (key-3-4 (scan begin 0 t4) (a ∷ b ∷ c ∷ d ∷ 0 ∷ 0 ∷ 0 ∷ 0 ∷ []) (0 + length t4) p4.settles p4.plain) 2 refl (omega arith) he (omega arith) in
    let t5 = (t4 ++ item_text 3 4 e) in
    let p6 = then-count t5 3 5 (a ∷ b ∷ c ∷ d ∷ e ∷ 0 ∷ 0 ∷ 0 ∷ []) f (key-3-5 (scan begin 0 t5) (a ∷ b ∷ c ∷ d ∷ e ∷ 0 ∷ 0 ∷ 0 ∷ []) (0 + length t5) p5.settles p5.plain) 2 refl (omega arith) hf (omega arith) in
    ap read_line (group-6 (name_of 3) (item_text 3 0 a) (item_text 3 1 b) (item_text 3 2 c) (item_text 3 3 d) (item_text 3 4 e) (item_text 3 5 f) (10 ∷ []))
    ∙ line-end (t5 ++ item_text 3 5 f) 3 6 (a ∷ b ∷ c ∷ d ∷ e ∷ f ∷ 0 ∷ 0 ∷ []) p6.settles (λ start value at at'. refl)

pub line-round-1 : (a : ℕ) → a < 4294967296 → read_line (line_text 4 (a ∷ [])) ≡ Called (call_of 4 1 (a ∷ 0 ∷ 0 ∷ 0 ∷ 0 ∷ 0 ∷ 0 ∷ 0 ∷ []))
unfolding computing
line-round-1 a ha =
    let r0 : Settles (scan begin 0 (name_of 4)) 4 0 zeros = record { start = 0; value = code_of (name_of 4); is = refl; active = refl } in
    let t0 = name_of 4 in
    let p1 = then-price t0 4 0 (0 ∷ 0 ∷ 0 ∷ 0 ∷ 0 ∷ 0 ∷ 0 ∷ 0 ∷ []) a (key-4-0 (scan begin 0 t0) (0 ∷ 0 ∷ 0 ∷ 0 ∷ 0 ∷ 0 ∷ 0 ∷ 0 ∷ []) (0 + length t0) r0) refl ha in
    ap read_line (group-1 (name_of 4) (item_text 4 0 a) (10 ∷ []))
    ∙ line-end (t0 ++ item_text 4 0 a) 4 1 (a ∷ 0 ∷ 0 ∷ 0 ∷ 0 ∷ 0 ∷ 0 ∷ 0 ∷ []) p1.settles (λ start value at at'. refl)

pub line-round-2 : (a : ℕ) (b : ℕ) → a < 4294967296 → b < 4294967296 → read_line (line_text 4 (a ∷ b ∷ [])) ≡ Called (call_of 4 2 (a ∷ b ∷ 0 ∷ 0 ∷ 0 ∷ 0 ∷ 0 ∷ 0 ∷ []))
unfolding computing
line-round-2 a b ha hb =
    let r0 : Settles (scan begin 0 (name_of 4)) 4 0 zeros = record { start = 0; value = code_of (name_of 4); is = refl; active = refl } in
    let t0 = name_of 4 in
    let p1 = then-price t0 4 0 (0 ∷ 0 ∷ 0 ∷ 0 ∷ 0 ∷ 0 ∷ 0 ∷ 0 ∷ []) a (key-4-0 (scan begin 0 t0) (0 ∷ 0 ∷ 0 ∷ 0 ∷ 0 ∷ 0 ∷ 0 ∷ 0 ∷ []) (0 + length t0) r0) refl ha in
    let t1 = (t0 ++ item_text 4 0 a) in
    let p2 = then-price t1 4 1 (a ∷ 0 ∷ 0 ∷ 0 ∷ 0 ∷ 0 ∷ 0 ∷ 0 ∷ []) b (key-4-1 (scan begin 0 t1) (a ∷ 0 ∷ 0 ∷ 0 ∷ 0 ∷ 0 ∷ 0 ∷ 0 ∷ []) (0 + length t1) p1.settles p1.plain) refl hb in
    ap read_line (group-2 (name_of 4) (item_text 4 0 a) (item_text 4 1 b) (10 ∷ []))
    ∙ line-end (t1 ++ item_text 4 1 b) 4 2 (a ∷ b ∷ 0 ∷ 0 ∷ 0 ∷ 0 ∷ 0 ∷ 0 ∷ []) p2.settles (λ start value at at'. refl)

pub line-round-3 : (a : ℕ) (b : ℕ) (c : ℕ) → a < 4294967296 → b < 4294967296 → c < 4294967296 → read_line (line_text 4 (a ∷ b ∷ c ∷ [])) ≡ Called (call_of 4 3 (a ∷ b ∷ c ∷ 0 ∷ 0 ∷ 0 ∷ 0 ∷ 0 ∷ []))
unfolding computing
line-round-3 a b c ha hb hc =
    let r0 : Settles (scan begin 0 (name_of 4)) 4 0 zeros = record { start = 0; value = code_of (name_of 4); is = refl; active = refl } in
    let t0 = name_of 4 in
    let p1 = then-price t0 4 0 (0 ∷ 0 ∷ 0 ∷ 0 ∷ 0 ∷ 0 ∷ 0 ∷ 0 ∷ []) a (key-4-0 (scan begin 0 t0) (0 ∷ 0 ∷ 0 ∷ 0 ∷ 0 ∷ 0 ∷ 0 ∷ 0 ∷ []) (0 + length t0) r0) refl ha in
    let t1 = (t0 ++ item_text 4 0 a) in
    let p2 = then-price t1 4 1 (a ∷ 0 ∷ 0 ∷ 0 ∷ 0 ∷ 0 ∷ 0 ∷ 0 ∷ []) b (key-4-1 (scan begin 0 t1) (a ∷ 0 ∷ 0 ∷ 0 ∷ 0 ∷ 0 ∷ 0 ∷ 0 ∷ []) (0 + length t1) p1.settles p1.plain) refl hb in
    let t2 = (t1 ++ item_text 4 1 b) in
    let p3 = then-price t2 4 2 (a ∷ b ∷ 0 ∷ 0 ∷ 0 ∷ 0 ∷ 0 ∷ 0 ∷ []) c (key-4-2 (scan begin 0 t2) (a ∷ b ∷ 0 ∷ 0 ∷ 0 ∷ 0 ∷ 0 ∷ 0 ∷ []) (0 + length t2) p2.settles p2.plain) refl hc in
    ap read_line (group-3 (name_of 4) (item_text 4 0 a) (item_text 4 1 b) (item_text 4 2 c) (10 ∷ []))
    ∙ line-end (t2 ++ item_text 4 2 c) 4 3 (a ∷ b ∷ c ∷ 0 ∷ 0 ∷ 0 ∷ 0 ∷ 0 ∷ []) p3.settles (λ start value at at'. refl)

pub line-round-4 : (a : ℕ) (b : ℕ) (c : ℕ) (d : ℕ) → a < 4294967296 → b < 4294967296 → c < 4294967296 → d < 4294967296 → read_line (line_text 4 (a ∷ b ∷ c ∷ d ∷ [])) ≡ Called (call_of 4 4 (a ∷ b ∷ c ∷ d ∷ 0 ∷ 0 ∷ 0 ∷ 0 ∷ []))
unfolding computing
line-round-4 a b c d ha hb hc hd =
    let r0 : Settles (scan begin 0 (name_of 4)) 4 0 zeros = record { start = 0; value = code_of (name_of 4); is = refl; active = refl } in
    let t0 = name_of 4 in
    let p1 = then-price t0 4 0 (0 ∷ 0 ∷ 0 ∷ 0 ∷ 0 ∷ 0 ∷ 0 ∷ 0 ∷ []) a (key-4-0 (scan begin 0 t0) (0 ∷ 0 ∷ 0 ∷ 0 ∷ 0 ∷ 0 ∷ 0 ∷ 0 ∷ []) (0 + length t0) r0) refl ha in
    let t1 = (t0 ++ item_text 4 0 a) in
    let p2 = then-price t1 4 1 (a ∷ 0 ∷ 0 ∷ 0 ∷ 0 ∷ 0 ∷ 0 ∷ 0 ∷ []) b (key-4-1 (scan begin 0 t1) (a ∷ 0 ∷ 0 ∷ 0 ∷ 0 ∷ 0 ∷ 0 ∷ 0 ∷ []) (0 + length t1) p1.settles p1.plain) refl hb in
    let t2 = (t1 ++ item_text 4 1 b) in
    let p3 = then-price t2 4 2 (a ∷ b ∷ 0 ∷ 0 ∷ 0 ∷ 0 ∷ 0 ∷ 0 ∷ []) c (key-4-2 (scan begin 0 t2) (a ∷ b ∷ 0 ∷ 0 ∷ 0 ∷ 0 ∷ 0 ∷ 0 ∷ []) (0 + length t2) p2.settles p2.plain) refl hc in
    let t3 = (t2 ++ item_text 4 2 c) in
    let p4 = then-price t3 4 3 (a ∷ b ∷ c ∷ 0 ∷ 0 ∷ 0 ∷ 0 ∷ 0 ∷ []) d (key-4-3 (scan begin 0 t3) (a ∷ b ∷ c ∷ 0 ∷ 0 ∷ 0 ∷ 0 ∷ 0 ∷ []) (0 + length t3) p3.settles p3.plain) refl hd in
    ap read_line (group-4 (name_of 4) (item_text 4 0 a) (item_text 4 1 b) (item_text 4 2 c) (item_text 4 3 d) (10 ∷ []))
    ∙ line-end (t3 ++ item_text 4 3 d) 4 4 (a ∷ b ∷ c ∷ d ∷ 0 ∷ 0 ∷ 0 ∷ 0 ∷ []) p4.settles (λ start value at at'. refl)

pub line-bid : (a : ℕ) (b : ℕ) (c : ℕ) (d : ℕ) → a < 2 ^ 8 → b < 2 ^ 8 → c < 2 ^ 16 → d < 4294967296 → read_line (line_text 5 (a ∷ b ∷ c ∷ d ∷ [])) ≡ Called (call_of 5 4 (a ∷ b ∷ c ∷ d ∷ 0 ∷ 0 ∷ 0 ∷ 0 ∷ []))
unfolding computing
line-bid a b c d ha hb hc hd =
    let r0 : Settles (scan begin 0 (name_of 5)) 5 0 zeros = record { start = 0; value = code_of (name_of 5); is = refl; active = refl } in
    let t0 = name_of 5 in
    let p1 = then-count t0 5 0 (0 ∷ 0 ∷ 0 ∷ 0 ∷ 0 ∷ 0 ∷ 0 ∷ 0 ∷ []) a (key-5-0 (scan begin 0 t0) (0 ∷ 0 ∷ 0 ∷ 0 ∷ 0 ∷ 0 ∷ 0 ∷ 0 ∷ []) (0 + length t0) r0) 1 refl (omega arith) ha (omega arith) in
    let t1 = (t0 ++ item_text 5 0 a) in
    let p2 = then-count t1 5 1 (a ∷ 0 ∷ 0 ∷ 0 ∷ 0 ∷ 0 ∷ 0 ∷ 0 ∷ []) b (key-5-1 (scan begin 0 t1) (a ∷ 0 ∷ 0 ∷ 0 ∷ 0 ∷ 0 ∷ 0 ∷ 0 ∷ []) (0 + length t1) p1.settles) 1 refl (omega arith) hb (omega arith) in
    let t2 = (t1 ++ item_text 5 1 b) in
    let p3 = then-count t2 5 2 (a ∷ b ∷ 0 ∷ 0 ∷ 0 ∷ 0 ∷ 0 ∷ 0 ∷ []) c (key-5-2 (scan begin 0 t2) (a ∷ b ∷ 0 ∷ 0 ∷ 0 ∷ 0 ∷ 0 ∷ 0 ∷ []) (0 + length t2) p2.settles) 2 refl (omega arith) hc (omega arith) in
    let t3 = (t2 ++ item_text 5 2 c) in
    let p4 = then-price t3 5 3 (a ∷ b ∷ c ∷ 0 ∷ 0 ∷ 0 ∷ 0 ∷ 0 ∷ []) d (key-5-3 (scan begin 0 t3) (a ∷ b ∷ c ∷ 0 ∷ 0 ∷ 0 ∷ 0 ∷ 0 ∷ []) (0 + length t3) p3.settles) refl hd in
    ap read_line (group-4 (name_of 5) (item_text 5 0 a) (item_text 5 1 b) (item_text 5 2 c) (item_text 5 3 d) (10 ∷ []))
    ∙ line-end (t3 ++ item_text 5 3 d) 5 4 (a ∷ b ∷ c ∷ d ∷ 0 ∷ 0 ∷ 0 ∷ 0 ∷ []) p4.settles (λ start value at at'. refl)

pub line-close : read_line (line_text 6 []) ≡ Called (call_of 6 0 zeros)
unfolding computing
line-close =
    let r0 : Settles (scan begin 0 (name_of 6)) 6 0 zeros = record { start = 0; value = code_of (name_of 6); is = refl; active = refl } in
    line-end (name_of 6) 6 0 zeros r0 (λ start value at at'. refl)

pub line-allocate : (a : ℕ) (b : ℕ) → a < 2 ^ 8 → b < 4294967296 → read_line (line_text 7 (a ∷ b ∷ [])) ≡ Called (call_of 7 2 (a ∷ b ∷ 0 ∷ 0 ∷ 0 ∷ 0 ∷ 0 ∷ 0 ∷ []))
unfolding computing
line-allocate a b ha hb =
    let r0 : Settles (scan begin 0 (name_of 7)) 7 0 zeros = record { start = 0; value = code_of (name_of 7); is = refl; active = refl } in
    let t0 = name_of 7 in
    let p1 = then-count t0 7 0 (0 ∷ 0 ∷ 0 ∷ 0 ∷ 0 ∷ 0 ∷ 0 ∷ 0 ∷ []) a (key-7-0 (scan begin 0 t0) (0 ∷ 0 ∷ 0 ∷ 0 ∷ 0 ∷ 0 ∷ 0 ∷ 0 ∷ []) (0 + length t0) r0) 1 refl (omega arith) ha (omega arith) in
    let t1 = (t0 ++ item_text 7 0 a) in
    let p2 = then-price t1 7 1 (a ∷ 0 ∷ 0 ∷ 0 ∷ 0 ∷ 0 ∷ 0 ∷ 0 ∷ []) b (key-7-1 (scan begin 0 t1) (a ∷ 0 ∷ 0 ∷ 0 ∷ 0 ∷ 0 ∷ 0 ∷ 0 ∷ []) (0 + length t1) p1.settles) refl hb in
    ap read_line (group-2 (name_of 7) (item_text 7 0 a) (item_text 7 1 b) (10 ∷ []))
    ∙ line-end (t1 ++ item_text 7 1 b) 7 2 (a ∷ b ∷ 0 ∷ 0 ∷ 0 ∷ 0 ∷ 0 ∷ 0 ∷ []) p2.settles (λ start value at at'. refl)

pub line-tear : (a : ℕ) (b : ℕ) → a < 2 ^ 8 → b < 4294967296 → read_line (line_text 8 (a ∷ b ∷ [])) ≡ Called (call_of 8 2 (a ∷ b ∷ 0 ∷ 0 ∷ 0 ∷ 0 ∷ 0 ∷ 0 ∷ []))
unfolding computing
line-tear a b ha hb =
    let r0 : Settles (scan begin 0 (name_of 8)) 8 0 zeros = record { start = 0; value = code_of (name_of 8); is = refl; active = refl } in
    let t0 = name_of 8 in
    let p1 = then-count t0 8 0 (0 ∷ 0 ∷ 0 ∷ 0 ∷ 0 ∷ 0 ∷ 0 ∷ 0 ∷ []) a (key-8-0 (scan begin 0 t0) (0 ∷ 0 ∷ 0 ∷ 0 ∷ 0 ∷ 0 ∷ 0 ∷ 0 ∷ []) (0 + length t0) r0) 1 refl (omega arith) ha (omega arith) in
    let t1 = (t0 ++ item_text 8 0 a) in
    let p2 = then-price t1 8 1 (a ∷ 0 ∷ 0 ∷ 0 ∷ 0 ∷ 0 ∷ 0 ∷ 0 ∷ []) b (key-8-1 (scan begin 0 t1) (a ∷ 0 ∷ 0 ∷ 0 ∷ 0 ∷ 0 ∷ 0 ∷ 0 ∷ []) (0 + length t1) p1.settles) refl hb in
    ap read_line (group-2 (name_of 8) (item_text 8 0 a) (item_text 8 1 b) (10 ∷ []))
    ∙ line-end (t1 ++ item_text 8 1 b) 8 2 (a ∷ b ∷ 0 ∷ 0 ∷ 0 ∷ 0 ∷ 0 ∷ 0 ∷ []) p2.settles (λ start value at at'. refl)

pub line-call : read_line (line_text 9 []) ≡ Called (call_of 9 0 zeros)
unfolding computing
line-call =
    let r0 : Settles (scan begin 0 (name_of 9)) 9 0 zeros = record { start = 0; value = code_of (name_of 9); is = refl; active = refl } in
    line-end (name_of 9) 9 0 zeros r0 (λ start value at at'. refl)

pub line-pay : (a : ℕ) (b : ℕ) → a < 2 ^ 8 → b < 4294967296 → read_line (line_text 10 (a ∷ b ∷ [])) ≡ Called (call_of 10 2 (a ∷ b ∷ 0 ∷ 0 ∷ 0 ∷ 0 ∷ 0 ∷ 0 ∷ []))
unfolding computing
line-pay a b ha hb =
    let r0 : Settles (scan begin 0 (name_of 10)) 10 0 zeros = record { start = 0; value = code_of (name_of 10); is = refl; active = refl } in
    let t0 = name_of 10 in
    let p1 = then-count t0 10 0 (0 ∷ 0 ∷ 0 ∷ 0 ∷ 0 ∷ 0 ∷ 0 ∷ 0 ∷ []) a (key-10-0 (scan begin 0 t0) (0 ∷ 0 ∷ 0 ∷ 0 ∷ 0 ∷ 0 ∷ 0 ∷ 0 ∷ []) (0 + length t0) r0) 1 refl (omega arith) ha (omega arith) in
    let t1 = (t0 ++ item_text 10 0 a) in
    let p2 = then-amount t1 10 1 (a ∷ 0 ∷ 0 ∷ 0 ∷ 0 ∷ 0 ∷ 0 ∷ 0 ∷ []) b (key-10-1 (scan begin 0 t1) (a ∷ 0 ∷ 0 ∷ 0 ∷ 0 ∷ 0 ∷ 0 ∷ 0 ∷ []) (0 + length t1) p1.settles) refl hb in
    ap read_line (group-2 (name_of 10) (item_text 10 0 a) (item_text 10 1 b) (10 ∷ []))
    ∙ line-end (t1 ++ item_text 10 1 b) 10 2 (a ∷ b ∷ 0 ∷ 0 ∷ 0 ∷ 0 ∷ 0 ∷ 0 ∷ []) p2.settles (λ start value at at'. refl)

pub line-move : (a : ℕ) → a < 2 ^ 8 → read_line (line_text 11 (a ∷ [])) ≡ Called (call_of 11 1 (a ∷ 0 ∷ 0 ∷ 0 ∷ 0 ∷ 0 ∷ 0 ∷ 0 ∷ []))
unfolding computing
line-move a ha =
    let r0 : Settles (scan begin 0 (name_of 11)) 11 0 zeros = record { start = 0; value = code_of (name_of 11); is = refl; active = refl } in
    let t0 = name_of 11 in
    let p1 = then-count t0 11 0 (0 ∷ 0 ∷ 0 ∷ 0 ∷ 0 ∷ 0 ∷ 0 ∷ 0 ∷ []) a (key-11-0 (scan begin 0 t0) (0 ∷ 0 ∷ 0 ∷ 0 ∷ 0 ∷ 0 ∷ 0 ∷ 0 ∷ []) (0 + length t0) r0) 1 refl (omega arith) ha (omega arith) in
    ap read_line (group-1 (name_of 11) (item_text 11 0 a) (10 ∷ []))
    ∙ line-end (t0 ++ item_text 11 0 a) 11 1 (a ∷ 0 ∷ 0 ∷ 0 ∷ 0 ∷ 0 ∷ 0 ∷ 0 ∷ []) p1.settles (λ start value at at'. refl)

pub line-miss : (a : ℕ) (b : ℕ) → a < 2 ^ 8 → b < 4294967296 → read_line (line_text 12 (a ∷ b ∷ [])) ≡ Called (call_of 12 2 (a ∷ b ∷ 0 ∷ 0 ∷ 0 ∷ 0 ∷ 0 ∷ 0 ∷ []))
unfolding computing
line-miss a b ha hb =
    let r0 : Settles (scan begin 0 (name_of 12)) 12 0 zeros = record { start = 0; value = code_of (name_of 12); is = refl; active = refl } in
    let t0 = name_of 12 in
    let p1 = then-count t0 12 0 (0 ∷ 0 ∷ 0 ∷ 0 ∷ 0 ∷ 0 ∷ 0 ∷ 0 ∷ []) a (key-12-0 (scan begin 0 t0) (0 ∷ 0 ∷ 0 ∷ 0 ∷ 0 ∷ 0 ∷ 0 ∷ 0 ∷ []) (0 + length t0) r0) 1 refl (omega arith) ha (omega arith) in
    let t1 = (t0 ++ item_text 12 0 a) in
    let p2 = then-price t1 12 1 (a ∷ 0 ∷ 0 ∷ 0 ∷ 0 ∷ 0 ∷ 0 ∷ 0 ∷ []) b (key-12-1 (scan begin 0 t1) (a ∷ 0 ∷ 0 ∷ 0 ∷ 0 ∷ 0 ∷ 0 ∷ 0 ∷ []) (0 + length t1) p1.settles) refl hb in
    ap read_line (group-2 (name_of 12) (item_text 12 0 a) (item_text 12 1 b) (10 ∷ []))
    ∙ line-end (t1 ++ item_text 12 1 b) 12 2 (a ∷ b ∷ 0 ∷ 0 ∷ 0 ∷ 0 ∷ 0 ∷ 0 ∷ []) p2.settles (λ start value at at'. refl)

pub line-finish : read_line (line_text 13 []) ≡ Called (call_of 13 0 zeros)
unfolding computing
line-finish =
    let r0 : Settles (scan begin 0 (name_of 13)) 13 0 zeros = record { start = 0; value = code_of (name_of 13); is = refl; active = refl } in
    line-end (name_of 13) 13 0 zeros r0 (λ start value at at'. refl)

pub line-sale : (a : ℕ) (b : ℕ) (c : ℕ) → a < 2 ^ 8 → b < 2 ^ 8 → c < 4294967296 → read_line (line_text 14 (a ∷ b ∷ c ∷ [])) ≡ Called (call_of 14 3 (a ∷ b ∷ c ∷ 0 ∷ 0 ∷ 0 ∷ 0 ∷ 0 ∷ []))
unfolding computing
line-sale a b c ha hb hc =
    let r0 : Settles (scan begin 0 (name_of 14)) 14 0 zeros = record { start = 0; value = code_of (name_of 14); is = refl; active = refl } in
    let t0 = name_of 14 in
    let p1 = then-count t0 14 0 (0 ∷ 0 ∷ 0 ∷ 0 ∷ 0 ∷ 0 ∷ 0 ∷ 0 ∷ []) a (key-14-0 (scan begin 0 t0) (0 ∷ 0 ∷ 0 ∷ 0 ∷ 0 ∷ 0 ∷ 0 ∷ 0 ∷ []) (0 + length t0) r0) 1 refl (omega arith) ha (omega arith) in
    let t1 = (t0 ++ item_text 14 0 a) in
    let p2 = then-count t1 14 1 (a ∷ 0 ∷ 0 ∷ 0 ∷ 0 ∷ 0 ∷ 0 ∷ 0 ∷ []) b (key-14-1 (scan begin 0 t1) (a ∷ 0 ∷ 0 ∷ 0 ∷ 0 ∷ 0 ∷ 0 ∷ 0 ∷ []) (0 + length t1) p1.settles) 1 refl (omega arith) hb (omega arith) in
    let t2 = (t1 ++ item_text 14 1 b) in
    let p3 = then-price t2 14 2 (a ∷ b ∷ 0 ∷ 0 ∷ 0 ∷ 0 ∷ 0 ∷ 0 ∷ []) c (key-14-2 (scan begin 0 t2) (a ∷ b ∷ 0 ∷ 0 ∷ 0 ∷ 0 ∷ 0 ∷ 0 ∷ []) (0 + length t2) p2.settles) refl hc in
    ap read_line (group-3 (name_of 14) (item_text 14 0 a) (item_text 14 1 b) (item_text 14 2 c) (10 ∷ []))
    ∙ line-end (t2 ++ item_text 14 2 c) 14 3 (a ∷ b ∷ c ∷ 0 ∷ 0 ∷ 0 ∷ 0 ∷ 0 ∷ []) p3.settles (λ start value at at'. refl)

pub line-withdraw : (a : ℕ) (b : ℕ) → a < 2 ^ 8 → b < 2 ^ 16 → read_line (line_text 15 (a ∷ b ∷ [])) ≡ Called (call_of 15 2 (a ∷ b ∷ 0 ∷ 0 ∷ 0 ∷ 0 ∷ 0 ∷ 0 ∷ []))
unfolding computing
line-withdraw a b ha hb =
    let r0 : Settles (scan begin 0 (name_of 15)) 15 0 zeros = record { start = 0; value = code_of (name_of 15); is = refl; active = refl } in
    let t0 = name_of 15 in
    let p1 = then-count t0 15 0 (0 ∷ 0 ∷ 0 ∷ 0 ∷ 0 ∷ 0 ∷ 0 ∷ 0 ∷ []) a (key-15-0 (scan begin 0 t0) (0 ∷ 0 ∷ 0 ∷ 0 ∷ 0 ∷ 0 ∷ 0 ∷ 0 ∷ []) (0 + length t0) r0) 1 refl (omega arith) ha (omega arith) in
    let t1 = (t0 ++ item_text 15 0 a) in
    let p2 = then-count t1 15 1 (a ∷ 0 ∷ 0 ∷ 0 ∷ 0 ∷ 0 ∷ 0 ∷ 0 ∷ []) b (key-15-1 (scan begin 0 t1) (a ∷ 0 ∷ 0 ∷ 0 ∷ 0 ∷ 0 ∷ 0 ∷ 0 ∷ []) (0 + length t1) p1.settles) 2 refl (omega arith) hb (omega arith) in
    ap read_line (group-2 (name_of 15) (item_text 15 0 a) (item_text 15 1 b) (10 ∷ []))
    ∙ line-end (t1 ++ item_text 15 1 b) 15 2 (a ∷ b ∷ 0 ∷ 0 ∷ 0 ∷ 0 ∷ 0 ∷ 0 ∷ []) p2.settles (λ start value at at'. refl)
