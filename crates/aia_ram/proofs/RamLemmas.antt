-- Words of a row of bytes: where they stand, and what one that is written changes.
use Rattle.std.proofs.Common.{◌≡◌, ℕ, zero, suc, ◌+◌, ◌-◌, ◌*◌, ◌/◌, ◌%◌, ◌^◌, ◌<◌, ◌≤◌, List, [], ◌∷◌, ◌++◌, length, take, drop, replicate, get_or, refl, sym, ap, ◌∙◌, arith}
use Rattle.std.proofs.Math.ListN.{set}
use Rattle.std.proofs.Math.Nat.{div-one}
use Rattle.std.specs.Prelude.{slice_index}
use Rattle.std.proofs.lemmas.List.{drop-drop, length-drop, drop_all, take_all, append-nil, length-replicate}
use Rattle.byteorder.specs.Endian.{little_number, little_bytes}
use Rattle.byteorder.specs.Numbers.{little_number-reads_back, little_from-append, little_from-take, length-bytes_low_first}
use Rattle.aia_ram.specs.Words.{HasWordAt, word_in, bytes_in, words_of}

pub length-words_of : (n : ℕ) (bytes : List ℕ) → length (words_of n bytes) ≡ n
length-words_of zero bytes = refl
length-words_of (suc n) bytes = ap suc (length-words_of n (drop 8 bytes))

pub word_at : (n k : ℕ) (bytes : List ℕ) → k < n → get_or (words_of n bytes) k 0 ≡ word_in (drop (8 * k) bytes)
word_at zero k bytes h = absurd (omega arith)
word_at (suc n) zero bytes h = refl
word_at (suc n) (suc k) bytes h =
    let e : 8 + 8 * k ≡ 8 * suc k = omega arith in
    word_at n k (drop 8 bytes) (omega arith) ∙ ap word_in (drop-drop (8 * k) 8 bytes ∙ ap (λ m. drop m bytes) e)

drop-zeros : (n m : ℕ) → drop n (replicate {A = ℕ} m 0) ≡ replicate (m - n) 0
drop-zeros zero m = ap (λ k. replicate k 0) (omega arith)
drop-zeros (suc n) zero = let e : 0 ≡ 0 - suc n = omega arith in ap (λ k. replicate {A = ℕ} k 0) e
drop-zeros (suc n) (suc m) = let e : m - n ≡ suc m - suc n = omega arith in drop-zeros n m ∙ ap (λ k. replicate {A = ℕ} k 0) e

word_of_zeros : (m : ℕ) → word_in (replicate {A = ℕ} m 0) ≡ 0
unfolding word_in
word_of_zeros zero = refl
word_of_zeros (suc zero) = refl
word_of_zeros (suc (suc zero)) = refl
word_of_zeros (suc (suc (suc zero))) = refl
word_of_zeros (suc (suc (suc (suc zero)))) = refl
word_of_zeros (suc (suc (suc (suc (suc zero))))) = refl
word_of_zeros (suc (suc (suc (suc (suc (suc zero)))))) = refl
word_of_zeros (suc (suc (suc (suc (suc (suc (suc zero))))))) = refl
word_of_zeros (suc (suc (suc (suc (suc (suc (suc (suc m)))))))) = refl

pub words_of_zeros : (n m : ℕ) → words_of n (replicate {A = ℕ} m 0) ≡ replicate n 0
words_of_zeros zero m = refl
words_of_zeros (suc n) m = rw (word_of_zeros m, drop-zeros 8 m, words_of_zeros n (m - 8)) refl

pub first_written : (v : ℕ) (rest : List ℕ) → v < 2 ^ 64 → word_in (bytes_in v ++ rest) ≡ v
unfolding word_in bytes_in
first_written v rest h = little_number-reads_back 8 v rest h

pub bytes_of_word : (v : ℕ) → length (bytes_in v) ≡ 8
unfolding bytes_in
bytes_of_word v = length-bytes_low_first 0 8 v

first_kept : (m : ℕ) (bytes rest : List ℕ) → 8 ≤ m → 8 ≤ length bytes → word_in (take m bytes ++ rest) ≡ word_in bytes
unfolding word_in
first_kept m bytes rest h l =
    little_from-append 8 (take m bytes) rest (long m 8 bytes h l) ∙ little_from-take 0 8 m bytes h
  where
    long : (m n : ℕ) (xs : List ℕ) → n ≤ m → n ≤ length xs → n ≤ length (take m xs)
    long m zero xs h l = omega arith
    long zero (suc n) xs h l = absurd (omega arith)
    long (suc m) (suc n) [] h l = absurd (omega arith)
    long (suc m) (suc n) (x ∷ xs) h l = let s = long m n xs (omega arith) (omega arith) in omega (arith, s)

drop_taken : (n m j : ℕ) (xs rest : List ℕ) → j ≡ n + m → n ≤ length xs → drop n (take j xs ++ rest) ≡ take m (drop n xs) ++ rest
drop_taken zero m j xs rest e l = ap (λ k. take k xs ++ rest) (omega (arith, e))
drop_taken (suc n) m j [] rest e l = absurd (omega arith)
drop_taken (suc n) m zero (x ∷ xs) rest e l = absurd (omega (arith, e))
drop_taken (suc n) m (suc j) (x ∷ xs) rest e l = drop_taken n m j xs rest (omega (arith, e)) (omega arith)

drop_written : (v : ℕ) (rest : List ℕ) → drop 8 (bytes_in v ++ rest) ≡ rest
drop_written v rest = past 8 (bytes_in v) rest (bytes_of_word v)
  where
    past : (n : ℕ) (xs ys : List ℕ) → length xs ≡ n → drop n (xs ++ ys) ≡ ys
    past zero [] ys e = refl
    past zero (x ∷ xs) ys e = absurd (omega arith)
    past (suc n) [] ys e = absurd (omega arith)
    past (suc n) (x ∷ xs) ys e = past n xs ys (omega arith)

pub words_of-put : (n k v : ℕ) (bytes : List ℕ) → k < n → 8 * n ≤ length bytes → v < 2 ^ 64
    → words_of n (take (8 * k) bytes ++ (bytes_in v ++ drop (8 * k + 8) bytes)) ≡ set (words_of n bytes) k v
words_of-put zero k v bytes h l small = absurd (omega arith)
words_of-put (suc n) zero v bytes h l small = rw (first_written v (drop 8 bytes) small, drop_written v (drop 8 bytes)) refl
words_of-put (suc n) (suc k) v bytes h l small =
    let e : 8 * suc k ≡ 8 + 8 * k = omega arith in
    let f : 8 + (8 * k + 8) ≡ 8 * suc k + 8 = omega arith in
    let rest : drop (8 * suc k + 8) bytes ≡ drop (8 * k + 8) (drop 8 bytes) = sym (drop-drop (8 * k + 8) 8 bytes ∙ ap (λ m. drop m bytes) f) in
    let written = bytes_in v ++ drop (8 * suc k + 8) bytes in
    let dropped : drop 8 (take (8 * suc k) bytes ++ written) ≡ take (8 * k) (drop 8 bytes) ++ written =
    drop_taken 8 (8 * k) (8 * suc k) bytes written e (omega arith) in
    let len : length (drop 8 bytes) ≡ length bytes - 8 = length-drop 8 bytes in
    let first : word_in (take (8 * suc k) bytes ++ written) ≡ word_in bytes = first_kept (8 * suc k) bytes written (omega arith) (omega arith) in
    let later : words_of n (drop 8 (take (8 * suc k) bytes ++ written)) ≡ set (words_of n (drop 8 bytes)) k v =
    ap (words_of n) (dropped ∙ ap (λ r. take (8 * k) (drop 8 bytes) ++ (bytes_in v ++ r)) rest)
    ∙ words_of-put n k v (drop 8 bytes) (omega arith) (omega (arith, len)) small in
    rw (first, later) refl

-- ---- a word among bytes

pub word_read : (at : ℕ) (bytes : List ℕ) → at + 8 ≤ length bytes
    → little_number 8 (take (length bytes - at) (drop at bytes)) ≡ word_in (drop at bytes)
unfolding word_in
word_read at bytes h = little_from-take 0 8 (length bytes - at) (drop at bytes) (omega arith)

pub word_written : (at v : ℕ) (bytes new : List ℕ) → at + 8 ≤ length bytes
    → new ≡ little_bytes 8 v ++ drop 8 (take (length bytes - at) (drop at bytes))
    → take at bytes ++ (new ++ drop (length bytes - at) (drop at bytes)) ≡ take at bytes ++ (bytes_in v ++ drop (at + 8) bytes)
unfolding bytes_in
word_written at v bytes new h e =
    let n = length bytes - at in
    let none : drop n (drop at bytes) ≡ [] = drop_all n (drop at bytes) (omega (arith, length-drop at bytes)) in
    let whole : take n (drop at bytes) ≡ drop at bytes = take_all n (drop at bytes) (omega (arith, length-drop at bytes)) in
    rw (none, append-nil new) (ap (λ b. take at bytes ++ b) (rw (whole, drop-drop 8 at bytes) at e))

-- ---- the bytes of a word

pub byte_of_word : (v b : ℕ) → b < 8 → slice_index (bytes_in v) b ≡ v / 256 ^ b % 256
unfolding bytes_in
byte_of_word v zero h = sym (ap (λ n. n % 256) (div-one v))
byte_of_word v (suc zero) h = refl
byte_of_word v (suc (suc zero)) h = refl
byte_of_word v (suc (suc (suc zero))) h = refl
byte_of_word v (suc (suc (suc (suc zero)))) h = refl
byte_of_word v (suc (suc (suc (suc (suc zero))))) h = refl
byte_of_word v (suc (suc (suc (suc (suc (suc zero)))))) h = refl
byte_of_word v (suc (suc (suc (suc (suc (suc (suc zero))))))) h = refl
byte_of_word v (suc (suc (suc (suc (suc (suc (suc (suc b)))))))) h = absurd (omega arith)

-- ---- memory as words

pub words_there : (bytes words : List ℕ) → words ≡ words_of (length bytes / 8) bytes → length words ≡ length bytes / 8
words_there bytes words e = ap length e ∙ length-words_of (length bytes / 8) bytes

pub zeros_are_words : (len : ℕ) (bytes : List ℕ) → bytes ≡ replicate len 0 → words_of (length bytes / 8) bytes ≡ replicate (len / 8) 0
zeros_are_words len bytes e = rw (e, length-replicate len) (words_of_zeros (len / 8) len)

pub word_loaded : (at w : ℕ) (bytes words : List ℕ) → words ≡ words_of (length bytes / 8) bytes → HasWordAt words at → w ≡ word_in (drop at bytes)
    → w ≡ get_or words (at / 8) 0
word_loaded at w bytes words e fits is =
    let l = words_there bytes words e in
    let g : 8 * (at / 8) ≡ at = omega (arith, fits.0) in
    rw e (is ∙ ap (λ k. word_in (drop k bytes)) (sym g) ∙ sym (word_at (length bytes / 8) (at / 8) bytes (omega (arith, fits.1, l))))

pub word_stored : (at v : ℕ) (bytes new words : List ℕ) → words ≡ words_of (length bytes / 8) bytes → HasWordAt words at → v < 2 ^ 64
    → new ≡ take at bytes ++ (bytes_in v ++ drop (at + 8) bytes) → length new ≡ length bytes → words_of (length new / 8) new ≡ set words (at / 8) v
word_stored at v bytes new words e fits small is same =
    let n = length bytes / 8 in
    let l = words_there bytes words e in
    let g : 8 * (at / 8) ≡ at = omega (arith, fits.0) in
    let put = words_of-put n (at / 8) v bytes (omega (arith, fits.1, l)) (omega arith) small in
    let placed : words_of n (take at bytes ++ (bytes_in v ++ drop (at + 8) bytes)) ≡ set (words_of n bytes) (at / 8) v = rw g at put in
    rw (same, e) (ap (words_of n) is ∙ placed)
