mod CallListLaws
