-- The strings among the tokens of a text of UTF-8 are UTF-8.
use Rattle.std.proofs.Common.{◌≡◌, ℕ, ◌+◌, ◌<◌, ◌==◌, ◌&&◌, cond, Bool, true, false, Option, Some, None, List, [], ◌∷◌, ◌++◌, length, take, refl, sym, ◌∙◌, ap, subst, append_assoc, eqb-true, arith, IsUtf8}
use Rattle.std.specs.Prelude.{nat_eq}
use Rattle.std.specs.List.{starts_with}
use Rattle.json.specs.Token.{Token, begin_object, end_object, begin_array, end_array, key, string, number, boolean, null, bad}
use Rattle.json.specs.Text.{content, plain}
use Rattle.json.specs.Word.{after_number, ends_word, head, is_operator, is_space, literal, number_before, word}
use Rattle.json.specs.Ascii as ascii
use Rattle.json.specs.Lex.{Class, Lexeme, Mode, Place, after_comma, after_key, after_value, backslash, begins_colon, between, class, colon, comma, fresh, if_allowed, in_escape, in_string, in_word, lex, lex_byte, may_begin, may_close, operator, operator_lexeme, other, place_token, punctuate, quote, space, string_token, token, tokens}
use Rattle.mega_json_laws.proofs.Contents.{behind_ascii, plain_fits}

-- ---- what a token holds is UTF-8

abbrev pub IsGood : Token → Type 0
IsGood (key s) = IsUtf8 s
IsGood (string s) = IsUtf8 s
IsGood begin_object = Unit {0}
IsGood end_object = Unit {0}
IsGood begin_array = Unit {0}
IsGood end_array = Unit {0}
IsGood (number s) = Unit {0}
IsGood (boolean b) = Unit {0}
IsGood null = Unit {0}
IsGood bad = Unit {0}

abbrev pub AreGood : List Token → Type 0
AreGood [] = Unit {0}
AreGood (t ∷ ts) = IsGood t × AreGood ts

abbrev IsFit : Lexeme → Type 0
IsFit (token t) = IsGood t
IsFit comma = Unit {0}
IsFit colon = Unit {0}

abbrev AreFit : List Lexeme → Type 0
AreFit [] = Unit {0}
AreFit (l ∷ ls) = IsFit l × AreFit ls

-- ---- words and operators hold no text

either_good : (b : Bool) (t u : Token) → IsGood t → IsGood u → IsGood (cond b t u)
either_good true t u one two = one
either_good false t u one two = two

before_good : (t : List ℕ) (rest : Option (List ℕ)) → IsGood (number_before t rest)
before_good t None = tt
before_good t (Some rest) = either_good (ends_word rest) (number (take _ t)) bad tt tt

word_good : (t : List ℕ) → IsGood (word t)
unfolding word
word_good t =
    either_good (head t == ascii.lower_t) (literal ascii.true_text (boolean true) t) _ (either_good _ (boolean true) bad tt tt)
    (either_good (head t == ascii.lower_f) (literal ascii.false_text (boolean false) t) _ (either_good _ (boolean false) bad tt tt)
    (either_good (head t == ascii.lower_n) (literal ascii.null_text null t) _ (either_good _ null bad tt tt) (before_good t (after_number t))))

either_fit : (b : Bool) (l m : Lexeme) → IsFit l → IsFit m → IsFit (cond b l m)
either_fit true l m one two = one
either_fit false l m one two = two

operator_fit : (x : ℕ) → IsFit (operator_lexeme x)
operator_fit x =
    either_fit (x == ascii.open_brace) (token begin_object) _ tt (either_fit (x == ascii.close_brace) (token end_object) _ tt (either_fit (x == ascii.open_bracket) (token begin_array) _ tt
    (either_fit (x == ascii.close_bracket) (token end_array) _ tt (either_fit (x == ascii.comma) comma colon tt tt))))

-- ---- strings begin at a quote

string_good : (o : Option (List ℕ)) → ((s : List ℕ) → o ≡ Some s → IsUtf8 s) → IsGood (string_token o)
string_good None fits = tt
string_good (Some s) fits = fits s refl

quote_is : (x : ℕ) → class x ≡ quote → x ≡ 34
quote_is x is = go (x == 34) refl (x == 92) (is_operator x) (is_space x) is
  where
    go : (a : Bool) → (x == 34) ≡ a → (b c d : Bool) → cond a quote (cond b backslash (cond c operator (cond d space other))) ≡ quote → x ≡ 34
    go true is b c d e = eqb-true x 34 is
    go false is true c d e = absurd (cc)
    go false is false true d e = absurd (cc)
    go false is false false true e = absurd (cc)
    go false is false false false e = absurd (cc)

byte_fit : (m : Mode) (cl : Class) (x : ℕ) (xs pre : List ℕ) → class x ≡ cl → IsUtf8 (pre ++ x ∷ xs) → (k : Mode → List Lexeme) → ((next : Mode) → AreFit (k next)) → AreFit (lex_byte m cl x xs k)
byte_fit between quote x xs pre is u k more =
    let low : x < 128 = let same = quote_is x is in omega (arith, same) in
    (string_good (content plain xs) (λ s e. plain_fits xs [] s (behind_ascii pre x xs u low) e), more in_string)
byte_fit between backslash x xs pre is u k more = (tt, more in_word)
byte_fit between operator x xs pre is u k more = (operator_fit x, more between)
byte_fit between space x xs pre is u k more = more between
byte_fit between other x xs pre is u k more = (word_good (x ∷ xs), more in_word)
byte_fit in_word quote x xs pre is u k more = more in_word
byte_fit in_word backslash x xs pre is u k more = more in_word
byte_fit in_word operator x xs pre is u k more = (operator_fit x, more between)
byte_fit in_word space x xs pre is u k more = more between
byte_fit in_word other x xs pre is u k more = more in_word
byte_fit in_string quote x xs pre is u k more = more between
byte_fit in_string backslash x xs pre is u k more = more in_escape
byte_fit in_string operator x xs pre is u k more = more in_string
byte_fit in_string space x xs pre is u k more = more in_string
byte_fit in_string other x xs pre is u k more = more in_string
byte_fit in_escape cl x xs pre is u k more = more in_string

lexed : (m : Mode) (xs pre : List ℕ) → IsUtf8 (pre ++ xs) → AreFit (lex m xs)
unfolding lex
lexed m [] pre u = tt
lexed m (x ∷ xs) pre u =
    byte_fit m (class x) x xs pre refl u (λ next. lex next xs) (λ next. lexed next xs (pre ++ x ∷ []) (subst IsUtf8 (sym (append_assoc pre (x ∷ []) xs)) u))

-- ---- commas and colons

allowed_good : (b : Bool) (t : Token) (k : Place → List Token) (next : Place) → IsGood t → AreGood (k next) → AreGood (if_allowed b t k next)
allowed_good true t k next one more = (one, more)
allowed_good false t k next one more = (tt, tt)

placed_good : (p : Place) (t : Token) (b : Bool) (k : Place → List Token) → IsGood t → ((next : Place) → AreGood (k next)) → AreGood (place_token p t b k)
placed_good p begin_object b k one more = allowed_good (may_begin p) begin_object k fresh tt (more fresh)
placed_good p end_object b k one more = allowed_good (may_close p) end_object k after_value tt (more after_value)
placed_good p begin_array b k one more = allowed_good (may_begin p) begin_array k fresh tt (more fresh)
placed_good p end_array b k one more = allowed_good (may_close p) end_array k after_value tt (more after_value)
placed_good p (key s) b k one more = (tt, tt)
placed_good p (string s) true k one more = allowed_good (may_begin p) (key s) k after_key one (more after_key)
placed_good p (string s) false k one more = allowed_good (may_begin p) (string s) k after_value one (more after_value)
placed_good p (number s) b k one more = allowed_good (may_begin p) (number s) k after_value tt (more after_value)
placed_good p (boolean c) b k one more = allowed_good (may_begin p) (boolean c) k after_value tt (more after_value)
placed_good p null b k one more = allowed_good (may_begin p) null k after_value tt (more after_value)
placed_good p bad b k one more = (tt, tt)

punctuated : (p : Place) (ls : List Lexeme) → AreFit ls → AreGood (punctuate p ls)
unfolding punctuate
punctuated fresh [] fit = tt
punctuated after_value [] fit = tt
punctuated after_comma [] fit = (tt, tt)
punctuated after_key [] fit = (tt, tt)
punctuated fresh (token t ∷ ls) fit = placed_good fresh t (begins_colon ls) (λ next. punctuate next ls) fit.0 (λ next. punctuated next ls fit.1)
punctuated after_value (token t ∷ ls) fit = placed_good after_value t (begins_colon ls) (λ next. punctuate next ls) fit.0 (λ next. punctuated next ls fit.1)
punctuated after_comma (token t ∷ ls) fit = placed_good after_comma t (begins_colon ls) (λ next. punctuate next ls) fit.0 (λ next. punctuated next ls fit.1)
punctuated after_key (token t ∷ ls) fit = placed_good after_key t (begins_colon ls) (λ next. punctuate next ls) fit.0 (λ next. punctuated next ls fit.1)
punctuated fresh (comma ∷ ls) fit = (tt, tt)
punctuated after_value (comma ∷ ls) fit = punctuated after_comma ls fit.1
punctuated after_comma (comma ∷ ls) fit = (tt, tt)
punctuated after_key (comma ∷ ls) fit = (tt, tt)
punctuated fresh (colon ∷ ls) fit = (tt, tt)
punctuated after_value (colon ∷ ls) fit = (tt, tt)
punctuated after_comma (colon ∷ ls) fit = (tt, tt)
punctuated after_key (colon ∷ ls) fit = punctuated fresh ls fit.1

pub tokens_good : (text : List ℕ) → IsUtf8 text → AreGood (tokens text)
tokens_good text u = punctuated fresh (lex between text) (lexed between text [] u)
