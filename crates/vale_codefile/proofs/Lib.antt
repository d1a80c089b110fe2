mod SpellingLaws
